use Rattle.std.proofs.Common.{◌≡◌, ℕ, ◌-◌, ◌<◌, false, slice_index}
use Rattle.pulse_parts.specs.Listing.{active_by}
use Rattle.pulse_parts.proofs.active.listed_active.Given as goal

abbrev pub invariant-loop-i : goal.invariant-loop-i
invariant-loop-i l = (j : ℕ) → j < l.i → active_by l.nodes (slice_index l.part.active.nodes.items j) (slice_index l.part.excess.items (slice_index l.part.active.nodes.items j - l.part.first)) (slice_index l.labels (slice_index l.part.active.nodes.items j)) ≡ false
