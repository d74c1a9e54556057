-- What contracts see of a flow, of pushes and of a run's end: values by arc and by node, and the
-- parts of the nodes.
use Rattle.std.specs.Prelude.{◌≡◌, ℕ, ◌+◌, ◌-◌, ◌<◌, ◌≤◌, ◌⊎◌, ◌^◌, min, Bool, true, false, List, [], ◌∷◌, length, slice_index, map}
use Rattle.frame_net.specs.FlowNet.{FlowNet, node_count, start, row_len}
use Rattle.pulse_parts.specs.declared.parts.FlowPart.{FlowPart}
use Rattle.pulse_parts.specs.declared.parts.PushPart.{PushPart}
use Rattle.pulse_parts.specs.Listing.{AreWithin, IsListed, ListActive}
use Rattle.pulse_parts.specs.Parts.{Cells, IsParted, cells_of, rows_walked, values_of}
use Rattle.pulse_parts.specs.Start.{FlowNumbered, border_of}

-- The nodes from first up to end, their arcs from base on, and the excesses and new labels of the
-- nodes. Each is given by its number.
pub record FlowRange : Type 0 where
  pub first : ℕ
  pub end : ℕ
  pub base : ℕ
  pub arcs : ℕ
  pub excesses : ℕ
  pub labels : ℕ

-- the nodes from first up to end, the pushes over their arcs, which lie from base on, and the list
-- of the nodes that push
pub record PushRange : Type 0 where
  pub first : ℕ
  pub end : ℕ
  pub base : ℕ
  pub values : List ℕ
  pub pushing : List ℕ
  pub complete : Bool

-- the range of nodes that a part has, and the sizes of its tables
abbrev pub flow_range : FlowPart → FlowRange
flow_range q = record { first = q.first; end = q.end; base = q.base; arcs = length q.residuals.items; excesses = length q.excess.items; labels = length q.next.items }

abbrev pub push_range : PushPart → PushRange
push_range p = record { first = p.first; end = p.end; base = p.base; values = p.values.items; pushing = p.pushing.nodes.items; complete = p.pushing.complete }

-- a range of the network's nodes, with tables for its nodes and its arcs
pub record FlowRangeFits (net : FlowNet) (r : FlowRange) : Type 0 where
  pub ordered : r.first ≤ r.end
  pub within : r.end ≤ node_count net
  pub based : r.base ≡ start net r.first
  pub sized : r.arcs + start net r.first ≡ start net r.end
  pub nodes : r.excesses + r.first ≡ r.end
  pub same : r.labels ≡ r.excesses

-- a range of the network's nodes, with the pushes over its arcs; if its list is complete, other
-- nodes push nothing
pub record PushRangeFits (net : FlowNet) (r : PushRange) : Type 0 where
  pub ordered : r.first ≤ r.end
  pub within : r.end ≤ node_count net
  pub based : r.base ≡ start net r.first
  pub sized : length r.values + start net r.first ≡ start net r.end
  pub listed : r.complete ≡ true → AreWithin r.first r.end r.pushing
  pub rest : r.complete ≡ true → (v : ℕ) → r.first ≤ v → v < r.end → IsListed r.pushing v ⊎ ((k : ℕ) → k < row_len net v → slice_index r.values (start net v + k - r.base) ≡ 0)

-- the ranges hold the nodes from v on, end to end
abbrev pub AreFlowRanges : FlowNet → ℕ → List FlowRange → Type 0
AreFlowRanges net v rs = IsParted (FlowRangeFits net) (λ r. r.first) (λ r. r.end) (node_count net) v rs

-- The ranges of the pushes' parts stand end to end from a node on to the last one. They have room
-- for their nodes and arcs.
abbrev pub ArePushRanges : FlowNet → ℕ → List PushRange → Type 0
ArePushRanges net v rs = IsParted (PushRangeFits net) (λ r. r.first) (λ r. r.end) (node_count net) v rs

-- The ranges are those of the workers from k on, in their order. Worker k's first node is the end
-- of the shares of those before it.
abbrev pub AreRangesOf : {R : Type 0} → (R → ℕ) → (R → ℕ) → ℕ → ℕ → ℕ → List R → Type 0
AreRangesOf first end nodes workers k [] = k ≡ workers
AreRangesOf first end nodes workers k (r ∷ rs) = (first r ≡ border_of nodes workers k) × ((end r ≡ border_of nodes workers (k + 1)) × AreRangesOf first end nodes workers (k + 1) rs)

-- there is a range of the flow for each worker, in their order, from its border up to the next
-- worker's
abbrev pub AreFlowRangesOf : ℕ → ℕ → List FlowRange → Type 0
AreFlowRangesOf nodes workers rs = AreRangesOf (λ r. r.first) (λ r. r.end) nodes workers 0 rs

-- there is a range of the pushes for each worker, in their order
abbrev pub ArePushRangesOf : ℕ → ℕ → List PushRange → Type 0
ArePushRangesOf nodes workers rs = AreRangesOf (λ r. r.first) (λ r. r.end) nodes workers 0 rs

-- A flow: residuals by arc, excess and new labels by node (`cells`), and the labels. It has the
-- nodes that were delivered since the last turn, and the capacities by arc. It also tells whether a
-- refused delivery has lost the cells.
pub record FlowState : Type 0 where
  pub ranges : List FlowRange
  pub cells : Cells
  pub labels : List ℕ
  pub delivered : List Bool
  pub caps : List ℕ
  pub spent : Bool

-- what is seen of a flow's fields
abbrev pub flow_state : List FlowPart → List ℕ → List Bool → List ℕ → Bool → FlowState
flow_state parts labels delivered caps spent =
    record { ranges = map flow_range parts; cells = cells_of parts; labels = labels; delivered = delivered; caps = caps; spent = spent }

-- What a flow keeps beside what contracts see. Its parts are the workers' in their order, and if
-- that is noted, their lists hold the active nodes.
pub record FlowKept (listed spent : Bool) (labels : List ℕ) (parts : List FlowPart) : Type 0 where
  pub lists : listed ≡ true → ListActive (length labels) labels parts
  pub numbered : spent ≡ false → FlowNumbered parts

-- Pushes by arc, and whether a refused read phase has lost them. Also the number of rows that were
-- walked for pushes since the last read phase began, up to the greatest count of 32 bits.
pub record PushState : Type 0 where
  pub ranges : List PushRange
  pub values : List ℕ
  pub spent : Bool
  pub walked : ℕ

abbrev pub push_state : List PushPart → Bool → PushState
push_state parts spent = record { ranges = map push_range parts; values = values_of parts; spent = spent; walked = min (rows_walked parts) (2 ^ 32 - 1) }

-- the flow at the end of a run, and the number of its pulses
pub record RunEnd : Type 0 where
  pub flow : FlowState
  pub pulses : ℕ
