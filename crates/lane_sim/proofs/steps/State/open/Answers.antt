use Rattle.std.proofs.Common.{◌∙◌, ap, length}
use Rattle.lane_sim.proofs.steps.State.open.Goals as goal

pub open_state-requires-clause-lanes : goal.open_state-requires-clause-lanes
open_state-requires-clause-lanes c = c.requires.lanes

pub open_state-requires-clause-latches : goal.open_state-requires-clause-latches
open_state-requires-clause-latches c = ap length c.as_mut_slice.ensures.value ∙ c.requires.room
