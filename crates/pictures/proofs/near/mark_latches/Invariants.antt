use Rattle.std.proofs.Common.{take}
use Rattle.std.specs.List.{list_any, enumerate_from}
use Rattle.aig_graph.specs.Marking.{Marks, mark_at}
use Rattle.pictures.specs.Near.{latch_meets}
use Rattle.pictures.proofs.near.mark_latches.Given as goal

abbrev pub invariant-loop-k : goal.invariant-loop-k
invariant-loop-k l = Marks 0 l.fn.next l.next (λ v. list_any (latch_meets (mark_at 0 l.near) v) (take l.k (enumerate_from l.first l.latches)))
