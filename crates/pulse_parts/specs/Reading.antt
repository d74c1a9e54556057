-- Read: what each node pushes.
use Rattle.std.specs.Prelude.{◌≡◌, ℕ, ◌+◌, ◌-◌, ◌<◌, ◌≤◌, ◌==◌, nat_lt, min, max, cond, ◌&&◌, ◌^◌, ◌++◌, ◌∷◌, [], Bool, true, List, length, slice_index, slice_index_or, ◌⊎◌}
use Rattle.frame_net.specs.Flow.{sum_below, is_active}
use Rattle.frame_net.specs.FlowNet.{FlowNet, node_count, start, row_len, head}
use Rattle.pulse_parts.specs.declared.node_list.NodeList.{NodeList}
use Rattle.pulse_parts.specs.declared.parts.PushPart.{PushPart}
use Rattle.pulse_parts.specs.Listing.{AreWithin, IsListed, ListsPushing}
use Rattle.pulse_parts.specs.Parts.{Cells, pairs}

-- what v with the residuals `row` and this excess may push, and what it pushes, over its k-th arc
abbrev pub arc_admissible : FlowNet → List ℕ → ℕ → (ℕ → ℕ) → ℕ → ℕ → ℕ
arc_admissible net labels v row excess k =
    cond (nat_lt 1 v && nat_lt 0 excess && nat_lt (slice_index labels v) (node_count net) && (slice_index labels (head net v k) + 1 == slice_index labels v)) (row k) 0

abbrev pub arc_push : FlowNet → List ℕ → ℕ → (ℕ → ℕ) → ℕ → ℕ → ℕ
arc_push net labels v row excess k = min (arc_admissible net labels v row excess k) (excess - sum_below k (arc_admissible net labels v row excess))

-- what v pushes over its k-th arc, by the residuals and the excess of all nodes
abbrev pub cells_push : FlowNet → List ℕ → Cells → ℕ → ℕ → ℕ
cells_push net labels c v k = arc_push net labels v (λ j. slice_index c.residuals (start net v + j)) (slice_index c.excess v) k

-- Values that begin with arc `base`. The rows of the nodes from low up to high are what Read
-- writes, and each other value is as it was.
pub record RowsRead (net : FlowNet) (labels : List ℕ) (base low high : ℕ) (c : Cells) (old new : List ℕ) : Type 0 where
  pub same : length new ≡ length old
  pub done : (v k : ℕ) → low ≤ v → v < high → k < row_len net v → slice_index new (start net v + k - base) ≡ cells_push net labels c v k
  pub kept : (x : ℕ) → (base + x < start net low) ⊎ (start net high ≤ base + x) → slice_index new x ≡ slice_index old x

-- whether v is active, and how many of the nodes below v are
abbrev pub cells_active : FlowNet → List ℕ → Cells → ℕ → Bool
cells_active net labels c v = is_active (node_count net) (pairs net c labels) v

abbrev pub active_below : FlowNet → List ℕ → Cells → ℕ → ℕ
active_below net labels c v = sum_below v (λ u. cond (cells_active net labels c u) 1 0)

-- how many of the nodes from low up to high are active
abbrev pub active_from : FlowNet → List ℕ → Cells → ℕ → ℕ → ℕ
active_from net labels c low high = active_below net labels c high - active_below net labels c low

-- the count is `old + more`; all counts from the greatest of 32 bits on are one
abbrev pub IsCountedOn : ℕ → ℕ → ℕ → Type 0
IsCountedOn old more new = min new (2 ^ 32 - 1) ≡ min (old + more) (2 ^ 32 - 1)

-- the values from place `from` up to `to` are 0s, and each other is as it was
pub record Clears (from to : ℕ) (old new : List ℕ) : Type 0 where
  pub same : length new ≡ length old
  pub done : (x : ℕ) → from ≤ x → x < to → slice_index new x ≡ 0
  pub kept : (x : ℕ) → (x < from) ⊎ (to ≤ x) → slice_index new x ≡ slice_index old x

-- the rows of the first nodes of a list are 0s, and each other value is 0 or as it was
pub record ClearsListed (net : FlowNet) (base : ℕ) (list : List ℕ) (count : ℕ) (old new : List ℕ) : Type 0 where
  pub same : length new ≡ length old
  pub done : (i k : ℕ) → i < count → k < row_len net (slice_index list i) → slice_index new (start net (slice_index list i) + k - base) ≡ 0
  pub rest : (x : ℕ) → (slice_index new x ≡ 0) ⊎ (slice_index new x ≡ slice_index old x)

-- the rows of the nodes from `first` up to `end` hold 0s
abbrev pub RowsAreZero : FlowNet → ℕ → ℕ → ℕ → List ℕ → Type 0
RowsAreZero net base first end values = (v k : ℕ) → first ≤ v → v < end → k < row_len net v → slice_index values (start net v + k - base) ≡ 0

-- all rows of a part hold 0s
abbrev pub HoldsZeros : FlowNet → PushPart → Type 0
HoldsZeros net p = RowsAreZero net p.base p.first p.end p.values.items

-- node v was walked: its row is what Read writes, it is listed, and it is counted, up to the
-- greatest count of 32 bits
pub record Walks (net : FlowNet) (labels : List ℕ) (base v : ℕ) (c : Cells) (old new : List ℕ) (was now : NodeList) (before after : ℕ) : Type 0 where
  pub row : RowsRead net labels base v (v + 1) c old new
  pub listed : now.complete ≡ true → (was.complete ≡ true) × (now.nodes.items ≡ was.nodes.items ++ (v ∷ []))
  pub counted : after ≡ min (before + 1) (2 ^ 32 - 1)

-- node v of a part was walked
abbrev pub PartWalks : FlowNet → List ℕ → ℕ → Cells → PushPart → PushPart → Type 0
PartWalks net labels v c old new =
    Walks net labels old.base v c old.values.items new.values.items old.pushing new.pushing old.walked new.walked

-- from rows of 0s the active nodes from `first` up to `end` were walked, and no others
pub record WalksActive (net : FlowNet) (labels : List ℕ) (base first end : ℕ) (c : Cells) (old new : List ℕ) (list : NodeList) (count : ℕ) : Type 0 where
  pub rows : RowsRead net labels base first end c old new
  pub within : list.complete ≡ true → AreWithin first end list.nodes.items
  pub listed : list.complete ≡ true → (v : ℕ) → first ≤ v → v < end → cells_active net labels c v ≡ true → IsListed list.nodes.items v
  pub counted : count + active_below net labels c first ≡ active_below net labels c end

-- a list of the nodes from `first` up to `end` that rises and has all active ones
pub record CoversActive (net : FlowNet) (labels : List ℕ) (c : Cells) (first end : ℕ) (list : List ℕ) : Type 0 where
  pub within : AreWithin first end list
  pub rising : (i j : ℕ) → i < j → j < length list → slice_index list i < slice_index list j
  pub all : (v : ℕ) → first ≤ v → v < end → cells_active net labels c v ≡ true → IsListed list v

-- a part of the pushes after Read of those of its nodes that lie from `first` up to `end`
pub record PartRead (net : FlowNet) (labels : List ℕ) (first end : ℕ) (c : Cells) (old new : PushPart) : Type 0 where
  pub same_worker : new.worker ≡ old.worker
  pub same_first : new.first ≡ old.first
  pub same_end : new.end ≡ old.end
  pub same_base : new.base ≡ old.base
  pub same_size : length new.values.items ≡ length old.values.items
  pub lists : ListsPushing net new
  pub done : (v k : ℕ) → first ≤ v → v < end → old.first ≤ v → v < old.end → k < row_len net v → slice_index new.values.items (start net v + k - old.base) ≡ cells_push net labels c v k
  pub kept : (v k : ℕ) → (v < first) ⊎ (end ≤ v) → old.first ≤ v → v < old.end → k < row_len net v → slice_index new.values.items (start net v + k - old.base) ≡ slice_index old.values.items (start net v + k - old.base)

-- what reading leaves of each part's nodes in a range
abbrev pub PartsRead : FlowNet → List ℕ → ℕ → ℕ → Cells → List PushPart → List PushPart → Type 0
PartsRead net labels first end c olds news = (i : ℕ) (e : PushPart) → i < length olds → PartRead net labels first end c (slice_index_or olds i e) (slice_index_or news i e)

-- the nearest to v of the numbers from `first` to `end`
abbrev pub clamped : ℕ → ℕ → ℕ → ℕ
clamped first end v = min end (max first v)

-- a part's nodes from `first` up to `end` are read; their active ones were counted on as rows
-- walked
pub record PartReadOn (net : FlowNet) (labels : List ℕ) (first end : ℕ) (c : Cells) (old new : PushPart) : Type 0 where
  pub is_read : PartRead net labels first end c old new
  pub walked : IsCountedOn old.walked (active_from net labels c (clamped first end old.first) (clamped first end old.end)) new.walked

-- each part's nodes in that range are read and counted so
abbrev pub PartsReadOn : FlowNet → List ℕ → ℕ → ℕ → Cells → List PushPart → List PushPart → Type 0
PartsReadOn net labels first end c olds news = (i : ℕ) (e : PushPart) → i < length olds → PartReadOn net labels first end c (slice_index_or olds i e) (slice_index_or news i e)

-- a part of the pushes whose rows were all cleared
pub record PartCleared (net : FlowNet) (old new : PushPart) : Type 0 where
  pub same_worker : new.worker ≡ old.worker
  pub same_first : new.first ≡ old.first
  pub same_end : new.end ≡ old.end
  pub same_base : new.base ≡ old.base
  pub same_size : length new.values.items ≡ length old.values.items
  pub zero : RowsAreZero net old.base old.first old.end new.values.items
  pub lists : ListsPushing net new

-- a part of the pushes after Read of all its nodes, which walks the rows of the active ones alone
pub record WholeRead (net : FlowNet) (labels : List ℕ) (c : Cells) (old new : PushPart) : Type 0 where
  pub is_read : PartRead net labels 0 (node_count net) c old new
  pub walked : new.walked + active_below net labels c old.first ≡ active_below net labels c old.end

-- each part of the pushes after such a Read
abbrev pub WholesRead : FlowNet → List ℕ → Cells → List PushPart → List PushPart → Type 0
WholesRead net labels c olds news = (i : ℕ) (e : PushPart) → i < length olds → WholeRead net labels c (slice_index_or olds i e) (slice_index_or news i e)
