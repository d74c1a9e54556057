use Rattle.map_checks.specs.Parts.{IsTree}
use Rattle.map_checks.proofs.settling.settle.Given as goal

abbrev pub invariant-loop : goal.invariant-loop
invariant-loop l = IsTree l.first l.second l.map l.tree.pending.items l.tree.shown.items
