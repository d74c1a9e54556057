use Rattle.std.proofs.Common.{arith}
use Rattle.lane_sim.proofs.table.choice_lanes.Goals as goal

pub with-lanes-requires : goal.with-lanes-requires
with-lanes-requires c = omega (arith, c.loop-k-test.true, c.requires)
