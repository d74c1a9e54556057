use Rattle.aig_graph.proofs.MarkingLaws.{Marks-then}
use Rattle.pictures.specs.Near.{gate_meets}
use Rattle.pictures.proofs.near.mark_gate.Goals as goal

pub returns : goal.returns
unfolding gate_meets
returns c = Marks-then 0 _ _ _ _ _ (rw c.var.ensures.variable at c.mark_edge.ensures) (rw c.var-2.ensures.variable at c.mark_edge-2.ensures)
