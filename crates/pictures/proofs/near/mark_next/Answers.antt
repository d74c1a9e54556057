use Rattle.aig_graph.proofs.MarkingLaws.{Marks-then}
use Rattle.pictures.specs.Near.{is_next}
use Rattle.pictures.proofs.near.mark_next.Goals as goal

pub returns : goal.returns
unfolding is_next
returns c =
    Marks-then 0 _ _ _ _ _ (rw (c.first_latch.ensures.value, c.latches.ensures.value) at c.mark_latches.ensures)
    (rw (c.first_gate.ensures.value, c.gates.ensures.value) at c.mark_gates.ensures)
