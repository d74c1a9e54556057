use Rattle.std.proofs.Common.{take, ◌-◌, ◌&&◌}
use Rattle.std.specs.Prelude.{is_some}
use Rattle.aig_graph.specs.Graph.{first_latch, latch_at}
use Rattle.aig_graph.specs.Marking.{Marks, has}
use Rattle.aig_graph.proofs.border.mark_held.Given as goal

abbrev pub invariant-loop-position : goal.invariant-loop-position
invariant-loop-position l =
    Marks (first_latch l.aig) l.fn.marks l.marks (λ v. has (take l.position-index l.position-items) (v - first_latch l.aig) && is_some (latch_at l.aig v))
