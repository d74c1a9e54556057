use Rattle.std.proofs.Common.{ℕ, ◌≡◌, ◌+◌, ◌<◌, ◌&&◌, nat_lt, [], get_or}
use Rattle.lane_sim.specs.Lanes.{held}
use Rattle.lane_sim.specs.Blocks.{in_lane}
use Rattle.lane_sim.specs.Traces.{inputs_of}
use Rattle.lane_sim.proofs.table.load_inputs.Given as goal

abbrev pub invariant-loop-k : goal.invariant-loop-k
invariant-loop-k l = record {
  loaded : (i m : ℕ) → i < l.inputs → m < 256 → held l.table (1 + i) m ≡ (nat_lt m l.k && inputs_of (in_lane l.sequences m) l.step i);
  constant : get_or l.table 0 [] ≡ get_or l.fn.table 0 [];
  after : (v : ℕ) → l.inputs < v → get_or l.table v [] ≡ get_or l.fn.table v [];
}
