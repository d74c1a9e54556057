use Rattle.std.proofs.Common.{ℕ, ◌≡◌, ◌<◌, ◌&&◌, nat_lt}
use Rattle.lane_sim.specs.Lanes.{lane}
use Rattle.lane_sim.specs.Blocks.{in_lane}
use Rattle.lane_sim.specs.Traces.{choice_of}
use Rattle.lane_sim.proofs.table.choice_lanes.Given as goal

abbrev pub invariant-loop-k : goal.invariant-loop-k
invariant-loop-k l = (m : ℕ) → m < 256 → lane l.lanes m ≡ (nat_lt m l.k && choice_of (in_lane l.sequences m) l.place)
