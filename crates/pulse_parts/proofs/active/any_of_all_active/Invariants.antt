use Rattle.std.proofs.Common.{◌≡◌, ℕ, ◌+◌, ◌<◌, ◌&&◌, nat_lt, false, slice_index}
use Rattle.pulse_parts.proofs.active.any_of_all_active.Given as goal

abbrev pub invariant-loop-i : goal.invariant-loop-i
invariant-loop-i l = (j : ℕ) → j < l.i → (nat_lt 1 (l.part.first + j) && nat_lt 0 (slice_index l.part.excess.items j) && nat_lt (slice_index l.labels (l.part.first + j)) l.nodes) ≡ false
