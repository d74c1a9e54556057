use Rattle.std.proofs.Common.{◌≡◌, ℕ, ◌-◌, ◌<◌, slice_index, min}
use Rattle.frame_net.specs.Flow.{sum_below}
use Rattle.frame_net.specs.Rows.{row_admissible}
use Rattle.frame_net.proofs.rows.push_excess.Given as goal

abbrev pub invariant-loop-k : goal.invariant-loop-k
invariant-loop-k l = record {
  rest : l.left ≡ l.excess - sum_below l.k (row_admissible l.heads l.residuals l.labels l.label);
  below : (j : ℕ) → j < l.k → slice_index l.row j ≡ min (row_admissible l.heads l.residuals l.labels l.label j) (l.excess - sum_below j (row_admissible l.heads l.residuals l.labels l.label));
}
