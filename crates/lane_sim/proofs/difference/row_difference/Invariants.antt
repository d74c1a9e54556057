use Rattle.std.proofs.Common.{ℕ, ◌≡◌, ◌<◌, get_or, []}
use Rattle.lane_sim.specs.Lanes.{lane}
use Rattle.lane_sim.proofs.difference.row_difference.Given as goal

abbrev pub invariant-loop-place : goal.invariant-loop-place
invariant-loop-place l = (q : ℕ) → q < l.place → lane (get_or l.xs q []) l.lane ≡ lane (get_or l.ys q []) l.lane
