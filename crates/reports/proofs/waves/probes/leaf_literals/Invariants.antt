use Rattle.std.proofs.Common.{◌≡◌}
use Rattle.aig_graph.specs.Tables.{table}
use Rattle.reports.specs.waves.Probes.{literal}
use Rattle.reports.proofs.waves.probes.leaf_literals.Given as goal

abbrev pub invariant-loop-k : goal.invariant-loop-k
invariant-loop-k l = l.literals.items ≡ table 1 l.k literal
