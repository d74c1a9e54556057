use Rattle.std.specs.Prelude.{◌≡◌, ℕ, ◌+◌, ◌-◌, ◌<◌, ◌≤◌, ◌⊎◌, true, List, length, slice_index, slice_index_or}
use Rattle.pulse_parts.specs.declared.parts.FlowPart.{FlowPart}
use Rattle.pulse_parts.specs.Listing.{AreWithin, IsListed}
use Rattle.pulse_parts.specs.Parts.{IsParted}

-- a part with a new label for each of its nodes
pub record HasLabels (n : ℕ) (q : FlowPart) : Type 0 where
  pub ordered : q.first ≤ q.end
  pub within : q.end ≤ n
  pub sized : length q.next.items + q.first ≡ q.end

-- the parts hold a new label for each node from v up to n
abbrev pub AreLabelled : ℕ → ℕ → List FlowPart → Type 0
AreLabelled n v qs = IsParted (HasLabels n) (λ q. q.first) (λ q. q.end) n v qs

-- the nodes of a part that its list doesn't hold have the labels that they had
pub record KeepsLabels (labels : List ℕ) (q : FlowPart) : Type 0 where
  pub within : AreWithin q.first q.end q.active.nodes.items
  pub rest : (v : ℕ) → q.first ≤ v → v < q.end → IsListed q.active.nodes.items v ⊎ (slice_index q.next.items (v - q.first) ≡ slice_index labels v)

-- if a part's list is complete, the cells of its nodes that were not visited hold the labels
abbrev pub KeepLabels : List ℕ → List FlowPart → Type 0
KeepLabels labels qs = (i : ℕ) (d : FlowPart) → i < length qs → (slice_index_or qs i d).active.complete ≡ true → KeepsLabels labels (slice_index_or qs i d)

-- the labels of a part's nodes are its new labels, and nothing else has changed
pub record HoldsLabels (labels : List ℕ) (old new : FlowPart) : Type 0 where
  pub same : new ≡ record old { next = new.next }
  pub sized : length new.next.items ≡ length old.next.items
  pub here : (v : ℕ) → old.first ≤ v → v < old.end → slice_index new.next.items (v - old.first) ≡ slice_index labels v

-- after a call the cells for new labels hold the labels
abbrev pub HoldLabels : List ℕ → List FlowPart → List FlowPart → Type 0
HoldLabels labels olds news = (i : ℕ) (d : FlowPart) → i < length olds → HoldsLabels labels (slice_index_or olds i d) (slice_index_or news i d)
