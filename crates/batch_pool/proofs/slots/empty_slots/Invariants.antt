use Rattle.std.proofs.Common.{◌≡◌, ℕ, ◌≤◌, length, None, vec_capacity}
use Rattle.std.specs.Prelude.{slice_index_or}
use Rattle.batch_pool.proofs.slots.empty_slots.Given as goal

abbrev pub invariant-loop : goal.invariant-loop
invariant-loop g l = (length l.slots.items ≡ l.counter) × (l.count ≤ vec_capacity l.slots) × ((k : ℕ) → slice_index_or l.slots.items k None ≡ None)
