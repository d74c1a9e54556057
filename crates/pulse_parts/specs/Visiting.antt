-- The nodes that a delivery visits.
use Rattle.std.specs.Prelude.{◌≡◌, ℕ, ◌-◌, ◌<◌, ◌≤◌, ◌⊎◌, false, List, length, slice_index, slice_index_or}
use Rattle.frame_net.specs.FlowNet.{FlowNet, node_count, row_len, head}
use Rattle.pulse_parts.specs.declared.parts.FlowPart.{FlowPart}
use Rattle.pulse_parts.specs.Delivering.{PartDelivered, own, back}
use Rattle.pulse_parts.specs.Listing.{active_by, AreWithin, IsListed, IsRising, ListsTurning}

-- the nodes from first up to end that node u pushes to are listed, and so is u if it pushes
abbrev pub HeadListed : FlowNet → List ℕ → ℕ → ℕ → List ℕ → ℕ → ℕ → Type 0
HeadListed net xs first end list u k = 0 < own net xs u k → first ≤ head net u k → head net u k < end → IsListed list (head net u k)

abbrev pub HeadsListed : FlowNet → List ℕ → ℕ → ℕ → List ℕ → ℕ → Type 0
HeadsListed net xs first end list u = (k : ℕ) → k < row_len net u → HeadListed net xs first end list u k

-- u is listed if it is in the range, and so is each node of the range to which u pushes
pub record PushesListed (net : FlowNet) (xs : List ℕ) (first end : ℕ) (list : List ℕ) (u : ℕ) : Type 0 where
  pub here : first ≤ u → u < end → IsListed list u
  pub heads : HeadsListed net xs first end list u

-- every node that pushes was visited so
abbrev pub AllPushesListed : FlowNet → List ℕ → ℕ → ℕ → List ℕ → Type 0
AllPushesListed net xs first end list = (u k : ℕ) → u < node_count net → k < row_len net u → 0 < own net xs u k → PushesListed net xs first end list u

-- node v isn't active, pushes nothing and is pushed nothing, and its cell for a new label holds its
-- label
pub record IsStill (net : FlowNet) (labels xs : List ℕ) (v excess next : ℕ) : Type 0 where
  pub inactive : active_by (node_count net) v excess (slice_index labels v) ≡ false
  pub label : next ≡ slice_index labels v
  pub sends : (k : ℕ) → k < row_len net v → own net xs v k ≡ 0
  pub gets : (k : ℕ) → k < row_len net v → back net xs v k ≡ 0

-- a rising list of the nodes from first up to end holds each that isn't still
pub record CoversWork (net : FlowNet) (labels xs : List ℕ) (first end : ℕ) (excess next list : List ℕ) : Type 0 where
  pub within : AreWithin first end list
  pub rising : IsRising list
  pub rest : (v : ℕ) → first ≤ v → v < end → IsListed list v ⊎ IsStill net labels xs v (slice_index excess (v - first)) (slice_index next (v - first))

-- the list that a part has beside the one that stands holds each of its nodes that isn't still
abbrev pub ListsWork : FlowNet → List ℕ → List ℕ → FlowPart → Type 0
ListsWork net labels xs q = CoversWork net labels xs q.first q.end q.excess.items q.next.items q.spare.nodes.items

-- a part after Deliver of all its nodes
pub record WholeDelivered (net : FlowNet) (labels xs : List ℕ) (old new : FlowPart) : Type 0 where
  pub is_delivered : PartDelivered net labels xs 0 (node_count net) old new
  pub turning : ListsTurning (node_count net) labels new

-- what delivery leaves of all nodes of each part
abbrev pub WholesDelivered : FlowNet → List ℕ → List ℕ → List FlowPart → List FlowPart → Type 0
WholesDelivered net labels xs olds news = (i : ℕ) (d : FlowPart) → i < length olds → WholeDelivered net labels xs (slice_index_or olds i d) (slice_index_or news i d)
