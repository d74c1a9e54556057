-- Lists of nodes, by which a phase visits few rows: no other node has anything to do.
use Rattle.std.specs.Prelude.{◌≡◌, ℕ, ◌+◌, ◌-◌, ◌<◌, ◌≤◌, ◌&&◌, ◌⊎◌, nat_lt, Bool, true, false, List, length, slice_index, slice_index_or}
use Rattle.frame_net.specs.FlowNet.{FlowNet, start, row_len}
use Rattle.pulse_parts.specs.declared.node_list.NodeList.{NodeList}
use Rattle.pulse_parts.specs.declared.parts.FlowPart.{FlowPart}
use Rattle.pulse_parts.specs.declared.parts.PushPart.{PushPart}

-- a node stands in the list
pub record IsListed (list : List ℕ) (v : ℕ) : Type 0 where
  pub place : ℕ
  pub inside : place < length list
  pub there : slice_index list place ≡ v

-- each listed node has a property
abbrev pub EachListed : List ℕ → (ℕ → Type 0) → Type 0
EachListed list property = (i : ℕ) → i < length list → property (slice_index list i)

-- the listed nodes lie from first up to end
abbrev pub AreWithin : ℕ → ℕ → List ℕ → Type 0
AreWithin first end list = (i : ℕ) → i < length list → (first ≤ slice_index list i) × (slice_index list i < end)

-- the list rises strictly
abbrev pub IsRising : List ℕ → Type 0
IsRising list = (i j : ℕ) → i < j → j < length list → slice_index list i < slice_index list j

-- whether node v of n with this excess and label is active
abbrev pub active_by : ℕ → ℕ → ℕ → ℕ → Bool
active_by n v excess label = nat_lt 1 v && nat_lt 0 excess && nat_lt label n

-- whether node v of n is active, by the labels of all nodes and the excess of those from `first` on
abbrev pub active_in : ℕ → List ℕ → ℕ → List ℕ → ℕ → Bool
active_in n labels first excess v = active_by n v (slice_index excess (v - first)) (slice_index labels v)

-- a complete list holds each active node of the part, and the cells for new labels hold the labels
pub record ListsActive (n : ℕ) (labels : List ℕ) (q : FlowPart) : Type 0 where
  pub within : q.active.complete ≡ true → AreWithin q.first q.end q.active.nodes.items
  pub rising : q.active.complete ≡ true → IsRising q.active.nodes.items
  pub rest : q.active.complete ≡ true → (v : ℕ) → q.first ≤ v → v < q.end → IsListed q.active.nodes.items v ⊎ (active_by n v (slice_index q.excess.items (v - q.first)) (slice_index labels v) ≡ false)
  pub next : q.active.complete ≡ true → (v : ℕ) → q.first ≤ v → v < q.end → slice_index q.next.items (v - q.first) ≡ slice_index labels v

-- each part's list holds its active nodes, if it is complete
abbrev pub ListActive : ℕ → List ℕ → List FlowPart → Type 0
ListActive n labels qs = (i : ℕ) (d : FlowPart) → i < length qs → ListsActive n labels (slice_index_or qs i d)

-- a list holds each of the nodes from first up to end but those that keep their labels, by which
-- they aren't active
pub record HasTurning (n : ℕ) (labels : List ℕ) (first end : ℕ) (excess next list : List ℕ) : Type 0 where
  pub within : AreWithin first end list
  pub rising : IsRising list
  pub rest : (v : ℕ) → first ≤ v → v < end → IsListed list v
      ⊎ ((active_by n v (slice_index excess (v - first)) (slice_index labels v) ≡ false) × (slice_index next (v - first) ≡ slice_index labels v))

-- a part's spare list holds each of its nodes but those that keep their labels, by which they
-- aren't active
abbrev pub SparesTurning : ℕ → List ℕ → FlowPart → Type 0
SparesTurning n labels q = HasTurning n labels q.first q.end q.excess.items q.next.items q.spare.nodes.items

-- after delivery a part's complete list holds all its nodes but inactive ones that keep their
-- labels
abbrev pub ListsTurning : ℕ → List ℕ → FlowPart → Type 0
ListsTurning n labels q = q.active.complete ≡ true → HasTurning n labels q.first q.end q.excess.items q.next.items q.active.nodes.items

-- a complete list holds each node of the part whose row of pushes isn't all 0
pub record ListsPushing (net : FlowNet) (p : PushPart) : Type 0 where
  pub within : p.pushing.complete ≡ true → AreWithin p.first p.end p.pushing.nodes.items
  pub rest : p.pushing.complete ≡ true → (v : ℕ) → p.first ≤ v → v < p.end
      → IsListed p.pushing.nodes.items v ⊎ ((k : ℕ) → k < row_len net v → slice_index p.values.items (start net v + k - p.base) ≡ 0)

abbrev pub ListPushing : FlowNet → List PushPart → Type 0
ListPushing net ps = (i : ℕ) (d : PushPart) → i < length ps → ListsPushing net (slice_index_or ps i d)

-- the i-th part has the nodes from first up to end, and a complete list of those that may be active
pub record ListsRange (qs : List FlowPart) (listed : Bool) (first end i : ℕ) : Type 0 where
  pub is_listed : listed ≡ true
  pub inside : i < length qs
  pub same_first : (d : FlowPart) → (slice_index_or qs i d).first ≡ first
  pub same_end : (d : FlowPart) → (slice_index_or qs i d).end ≡ end
  pub complete : (d : FlowPart) → (slice_index_or qs i d).active.complete ≡ true

-- a list of nodes from first up to end that has grown, if it is still complete
pub record Extends (first end : ℕ) (old new : NodeList) : Type 0 where
  pub complete : new.complete ≡ true → old.complete ≡ true
  pub within : new.complete ≡ true → AreWithin first end old.nodes.items → AreWithin first end new.nodes.items
  pub kept : new.complete ≡ true → (v : ℕ) → IsListed old.nodes.items v → IsListed new.nodes.items v
