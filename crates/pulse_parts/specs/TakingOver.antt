-- What a part of a new parting takes over from the parts before.
use Rattle.std.specs.Prelude.{◌≡◌, ℕ, ◌<◌, ◌≤◌, true, List, length, slice_index_or}
use Rattle.pulse_parts.specs.declared.parts.FlowPart.{FlowPart}
use Rattle.pulse_parts.specs.Listing.{AreWithin, IsListed, IsRising}

-- a list that holds each node from first up to end that a part lists, if all parts' lists are
-- complete
pub record TakesOver (qs : List FlowPart) (first end : ℕ) (list : List ℕ) : Type 0 where
  pub within : AreWithin first end list
  pub rising : IsRising list
  pub complete : (i : ℕ) (d : FlowPart) → i < length qs → (slice_index_or qs i d).active.complete ≡ true
  pub kept : (i : ℕ) (d : FlowPart) (v : ℕ) → i < length qs → first ≤ v → v < end → IsListed (slice_index_or qs i d).active.nodes.items v → IsListed list v
