use Rattle.pictures.specs.Near.{latch_meets}
use Rattle.pictures.proofs.near.mark_latch.Goals as goal

pub returns : goal.returns
unfolding latch_meets
returns c = rw c.var.ensures.variable at c.mark_edge.ensures
