use Rattle.std.proofs.Common.{slice_index}
use Rattle.pulse_parts.proofs.laws.parting_law.Goals as goal
use Rattle.pulse_parts.proofs.StartStateLaws.{held_cut, parted_agrees}

pub returns : goal.returns
returns c = λ net labels cells qs ok cut. (held_cut net (slice_index cells.residuals) (slice_index cells.excess) qs cut, parted_agrees net labels cells qs ok cut)
