use Rattle.lane_sim.proofs.LaneLaws.{lane-none}
use Rattle.lane_sim.proofs.lanes.Lanes.none.Goals as goal

pub returns : goal.returns
returns c = lane-none
