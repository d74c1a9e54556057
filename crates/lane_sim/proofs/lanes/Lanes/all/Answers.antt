use Rattle.lane_sim.proofs.LaneLaws.{lane-all}
use Rattle.lane_sim.proofs.lanes.Lanes.all.Goals as goal

pub returns : goal.returns
returns c = lane-all
