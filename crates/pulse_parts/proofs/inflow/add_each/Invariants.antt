use Rattle.std.proofs.Common.{◌≡◌, ℕ, ◌+◌, ◌<◌, ◌≤◌, slice_index}
use Rattle.frame_net.specs.Flow.{sum_below}
use Rattle.pulse_parts.specs.Parts.{values_of}
use Rattle.pulse_parts.specs.Delivering.{back}
use Rattle.pulse_parts.proofs.inflow.add_each.Given as goal

abbrev pub invariant-loop-k : goal.invariant-loop-k
invariant-loop-k l = record {
  sum : l.inflow ≡ sum_below l.k (back l.net (values_of l.parts) l.v);
  below : (j : ℕ) → j < l.k → slice_index l.row j ≡ slice_index l.fn.row j + back l.net (values_of l.parts) l.v j;
  above : (j : ℕ) → l.k ≤ j → slice_index l.row j ≡ slice_index l.fn.row j;
}
