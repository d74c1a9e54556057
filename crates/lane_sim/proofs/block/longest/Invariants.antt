use Rattle.std.proofs.Common.{ℕ, ◌<◌, ◌≤◌, length}
use Rattle.lane_sim.specs.Blocks.{in_lane}
use Rattle.lane_sim.proofs.block.longest.Given as goal

abbrev pub invariant-loop-sequence : goal.invariant-loop-sequence
invariant-loop-sequence l = (k : ℕ) → k < l.sequence-index → length (in_lane l.sequences k).steps ≤ l.steps
