use Rattle.std.proofs.Common.{ℕ, ◌≡◌, ◌+◌, ◌<◌, false, [], get_or}
use Rattle.lane_sim.specs.Lanes.{held}
use Rattle.lane_sim.proofs.table.clear_inputs.Given as goal

abbrev pub invariant-loop-i : goal.invariant-loop-i
invariant-loop-i l = record {
  cleared : (i m : ℕ) → i < l.i → m < 256 → held l.table (1 + i) m ≡ false;
  constant : get_or l.table 0 [] ≡ get_or l.fn.table 0 [];
  after : (v : ℕ) → l.inputs < v → get_or l.table v [] ≡ get_or l.fn.table v [];
}
