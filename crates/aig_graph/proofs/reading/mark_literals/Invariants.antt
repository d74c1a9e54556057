use Rattle.std.proofs.Common.{take}
use Rattle.std.specs.List.{list_any}
use Rattle.aig_graph.specs.Border.{reads}
use Rattle.aig_graph.specs.Marking.{Marks}
use Rattle.aig_graph.proofs.reading.mark_literals.Given as goal

abbrev pub invariant-loop-lit : goal.invariant-loop-lit
invariant-loop-lit l = Marks l.first l.fn.read l.read (λ v. list_any (reads v) (take l.lit-index l.lits))
