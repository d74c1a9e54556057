use Rattle.std.proofs.Common.{◌-◌, ◌≡◌, ℕ, ◌<◌, ◌≤◌, Some}
use Rattle.frame_net.specs.FlowNet.{row_len, head, point_of}
use Rattle.cut_cert.specs.Steps.{PointsRise}
use Rattle.cut_cert.proofs.lookup.place_of.Given as goal

abbrev pub invariant-loop-low : goal.invariant-loop-low
invariant-loop-low l = record {
  ordered : l.low ≤ l.high;
  within : l.high ≤ row_len l.net l.node;
  around : PointsRise l.net → (k : ℕ) → k < row_len l.net l.node → point_of l.net (head l.net l.node k) ≡ Some l.point → (l.low ≤ k) × (k ≤ l.high);
}

abbrev pub decreases-loop-low : goal.decreases-loop-low
decreases-loop-low l = l.high - l.low
