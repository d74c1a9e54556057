use Rattle.std.proofs.Common.{◌≡◌, ℕ, ◌+◌, ◌<◌, All, length}
use Rattle.batch_pool.specs.Rule.{times}
use Rattle.batch_pool.specs.Sharing.{AreSlots, IsOutcome, filled, numbers}
use Rattle.batch_pool.proofs.slots.put_outcomes.Given as goal

abbrev pub invariant-loop-next : goal.invariant-loop-next
invariant-loop-next g l =
    (length l.slots.items ≡ length l.fn.slots.items) × AreSlots (goal.F-post g l.run) l.slots.items × All (IsOutcome (goal.F-post g l.run) (length l.slots.items)) l.left.items
    × ((k : ℕ) → 0 < times k (numbers l.fn.outcomes.items) + filled l.fn.slots.items k → 0 < times k (numbers l.left.items) + filled l.slots.items k)

abbrev pub decreases-loop-next : goal.decreases-loop-next
decreases-loop-next g l = goal.left-loop-next g l
