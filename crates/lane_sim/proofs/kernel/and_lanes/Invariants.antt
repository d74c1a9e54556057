use Rattle.std.proofs.Common.{◌≡◌, ◌-◌, ◌<◌, ◌≤◌, ℕ, length, slice_index}
use Rattle.lane_sim.specs.Words.{and_words}
use Rattle.lane_sim.proofs.kernel.and_lanes.Given as goal

abbrev pub invariant-chunks : goal.invariant-chunks
invariant-chunks l =
    (l.at ≤ length l.out)
    × ((k : ℕ) → k < l.at → slice_index l.out k ≡ and_words l.neg_a l.neg_b (slice_index l.a k) (slice_index l.b k))

abbrev pub decreases-chunks : goal.decreases-chunks
decreases-chunks l = length l.out - l.at

abbrev pub invariant-words : goal.invariant-words
invariant-words l =
    (l.at ≤ length l.out)
    × ((k : ℕ) → k < l.at → slice_index l.out k ≡ and_words l.neg_a l.neg_b (slice_index l.a k) (slice_index l.b k))

abbrev pub decreases-words : goal.decreases-words
decreases-words l = length l.out - l.at
