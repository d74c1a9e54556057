use Rattle.std.proofs.Common.{◌≡◌, ◌+◌, ◌≤◌, ◌++◌, All, Some, length, map, reverse, vec_capacity}
use Rattle.batch_pool.specs.Sharing.{IsFilled}
use Rattle.batch_pool.proofs.slots.unwrapped.Given as goal

abbrev pub invariant-loop-slot : goal.invariant-loop-slot
invariant-loop-slot g l =
    All IsFilled l.left.items × (l.left.items ++ map Some (reverse l.values.items) ≡ l.fn.slots.items)
    × (length l.left.items + length l.values.items ≡ length l.fn.slots.items) × (length l.fn.slots.items ≤ vec_capacity l.values)

abbrev pub decreases-loop-slot : goal.decreases-loop-slot
decreases-loop-slot g l = length l.left.items
