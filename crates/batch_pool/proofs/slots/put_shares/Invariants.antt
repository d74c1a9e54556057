use Rattle.std.proofs.Common.{◌≡◌, ℕ, ◌+◌, ◌<◌, ◌≤◌, All, IfOk, length, vec_capacity}
use Rattle.batch_pool.specs.Drawing.{IsDrawerOf, IsDone, drawers_of, jobs_of, times_drawn}
use Rattle.batch_pool.specs.Sharing.{AreSlots, IsShare, filled}
use Rattle.batch_pool.proofs.slots.put_shares.Given as goal

abbrev pub invariant-loop-next : goal.invariant-loop-next
invariant-loop-next g l =
    (length l.slots.items ≡ jobs_of l.draws) × AreSlots (goal.F-post g l.run) l.slots.items
    × All (λ s. IfOk s (IsShare (goal.F-post g l.run) l.draws)) l.left.items
    × (length l.left.items + length l.back.items ≡ drawers_of l.draws) × (drawers_of l.draws ≤ vec_capacity l.back)
    × All (IsDrawerOf l.draws) l.back.items × All (IsDone l.draws) l.back.items
    × ((k : ℕ) → k < jobs_of l.draws → 0 < times_drawn k l.back.items → 0 < filled l.slots.items k)

abbrev pub decreases-loop-next : goal.decreases-loop-next
decreases-loop-next g l = length l.left.items
