use Rattle.std.proofs.Common.{◌≡◌, ℕ, ◌<◌, true, length, slice_index_or}
use Rattle.pulse_parts.specs.declared.parts.PushPart.{PushPart}
use Rattle.pulse_parts.specs.Listing.{IsRising}
use Rattle.pulse_parts.proofs.inflow.few_push.Given as goal

abbrev pub invariant-loop-i : goal.invariant-loop-i
invariant-loop-i l = (k : ℕ) (d : PushPart) → k < l.i → k < length l.parts → ((slice_index_or l.parts k d).pushing.complete ≡ true) × IsRising (slice_index_or l.parts k d).pushing.nodes.items
