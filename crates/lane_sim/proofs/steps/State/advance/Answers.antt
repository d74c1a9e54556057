use Rattle.std.proofs.Common.{◌∙◌, ap, length}
use Rattle.lane_sim.proofs.steps.State.advance.Goals as goal

pub advance-requires-clause-variables : goal.advance-requires-clause-variables
advance-requires-clause-variables c = ap length c.as_slice.ensures.value ∙ c.requires.values.long

pub advance-requires-clause-latches : goal.advance-requires-clause-latches
advance-requires-clause-latches c = ap length c.as_mut_slice.ensures.value ∙ c.requires.room
