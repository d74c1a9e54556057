use Rattle.std.proofs.Common.{take}
use Rattle.std.specs.List.{list_any}
use Rattle.aig_graph.specs.declared.graph.Latch.{Latch}
use Rattle.aig_graph.specs.Border.{reads}
use Rattle.aig_graph.specs.Marking.{Marks}
use Rattle.aig_graph.proofs.reading.mark_latches.Given as goal

abbrev pub invariant-loop-latch : goal.invariant-loop-latch
invariant-loop-latch l = Marks l.first l.fn.read l.read (λ v. list_any (λ (latch : Latch). reads v latch.next) (take l.latch-index l.latches))
