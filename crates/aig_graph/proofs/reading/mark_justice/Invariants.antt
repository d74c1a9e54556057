use Rattle.std.proofs.Common.{take, List, ℕ}
use Rattle.std.specs.List.{list_any, flat_map}
use Rattle.aig_graph.specs.Border.{reads}
use Rattle.aig_graph.specs.Marking.{Marks}
use Rattle.aig_graph.proofs.reading.mark_justice.Given as goal

abbrev pub invariant-loop-lits : goal.invariant-loop-lits
invariant-loop-lits l = Marks l.first l.fn.read l.read (λ v. list_any (reads v) (flat_map (λ (lits : List ℕ). lits) (take l.lits-index l.justice)))
