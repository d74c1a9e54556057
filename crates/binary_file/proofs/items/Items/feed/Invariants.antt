use Rattle.std.proofs.Common.{ℕ, ◌≡◌, ◌+◌, length}
use Rattle.binary_file.specs.Reading.{State}
use Rattle.binary_file.specs.Standing.{Stands, IsFed}
use Rattle.binary_file.proofs.items.Items.feed.Given as goal

abbrev pub invariant-loop-left : goal.invariant-loop-left
invariant-loop-left l = (state : State) (offset : ℕ) → Stands l.fn.self offset state → offset + length l.piece ≡ l.end → IsFed l.self l.end state l.piece l.left

abbrev pub decreases-loop-left : goal.decreases-loop-left
decreases-loop-left l = length l.left
