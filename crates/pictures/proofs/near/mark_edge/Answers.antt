use Rattle.aig_graph.proofs.MarkingLaws.{Marks-then}
use Rattle.pictures.specs.Near.{meets}
use Rattle.pictures.proofs.near.mark_edge.Goals as goal

pub returns : goal.returns
unfolding meets
returns c = Marks-then 0 _ _ _ _ _ (rw c.mark_at.ensures at c.mark_where.ensures) (rw c.goes_on.ensures at c.mark_where-2.ensures)
