use Rattle.std.proofs.Common.{◌≡◌, ℕ, ◌-◌, ◌<◌, ◌≤◌, slice_index}
use Rattle.frame_net.specs.Flow.{sum_below}
use Rattle.frame_net.proofs.rows.subtract_pushes.Given as goal

abbrev pub invariant-loop-k : goal.invariant-loop-k
invariant-loop-k l = record {
  total : l.sum ≡ sum_below l.k (slice_index l.pushes);
  below : (j : ℕ) → j < l.k → slice_index l.row j ≡ slice_index l.fn.row j - slice_index l.pushes j;
  above : (j : ℕ) → l.k ≤ j → slice_index l.row j ≡ slice_index l.fn.row j;
}
