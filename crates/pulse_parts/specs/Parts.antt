use Rattle.std.specs.Prelude.{◌≡◌, ℕ, ◌+◌, ◌-◌, ◌<◌, ◌≤◌, ◌^◌, List, [], ◌∷◌, length, slice_index}
use Rattle.std.specs.List.{flat_map}
use Rattle.frame_net.specs.Flow.{sum_below, State, IsPreflow, IsValid}
use Rattle.frame_net.specs.Rows.{sparse}
use Rattle.frame_net.specs.FlowNet.{FlowNet, node_count, start, row_len, head}
use Rattle.pulse_parts.specs.declared.parts.FlowPart.{FlowPart}
use Rattle.pulse_parts.specs.declared.parts.PushPart.{PushPart}
use Rattle.pulse_parts.specs.Listing.{ListsPushing}

-- ---- parts

-- a part holds the values at the places from `pos first` up to `pos end`, for its nodes from
-- `first` up to `end`
pub record IsPiece {P : Type 0} (first end : P → ℕ) (values : P → List ℕ) (pos : ℕ → ℕ) (n : ℕ) (p : P) : Type 0 where
  pub ordered : first p ≤ end p
  pub within : end p ≤ n
  pub sized : length (values p) + pos (first p) ≡ pos (end p)

-- the parts hold the nodes from v up to n, end to end
abbrev pub IsParted : {P : Type 0} → (P → Type 0) → (P → ℕ) → (P → ℕ) → ℕ → ℕ → List P → Type 0
IsParted fits first end n v [] = v ≡ n
IsParted fits first end n v (p ∷ ps) = (first p ≡ v) × (fits p × IsParted fits first end n (end p) ps)

-- a part of the pushes has its range of nodes, its rows' first arc, and room for just these
pub record PushPartFits (net : FlowNet) (p : PushPart) : Type 0 where
  pub ordered : p.first ≤ p.end
  pub within : p.end ≤ node_count net
  pub based : p.base ≡ start net p.first
  pub sized : length p.values.items + start net p.first ≡ start net p.end
  pub lists : ListsPushing net p

-- a part of the flow has its range of nodes, its rows' first arc, and room for just these
pub record FlowPartFits (net : FlowNet) (q : FlowPart) : Type 0 where
  pub ordered : q.first ≤ q.end
  pub within : q.end ≤ node_count net
  pub based : q.base ≡ start net q.first
  pub sized : length q.residuals.items + start net q.first ≡ start net q.end
  pub nodes : length q.excess.items + q.first ≡ q.end
  pub same : length q.next.items ≡ length q.excess.items

-- the values of a part have room for the row of node v
pub record HasRow (net : FlowNet) (v : ℕ) (p : PushPart) : Type 0 where
  pub from : p.base ≤ start net v
  pub to : start net (v + 1) ≤ p.base + length p.values.items

-- nothing of a part has changed but its pushes and what was noted of them
abbrev pub KeepsNodes : PushPart → PushPart → Type 0
KeepsNodes old new = new ≡ record old { values = new.values; pushing = new.pushing; walked = new.walked }

-- parts of pushes that fit stand end to end from node v on
abbrev pub ArePushParts : FlowNet → ℕ → List PushPart → Type 0
ArePushParts net v ps = IsParted (PushPartFits net) (λ p. p.first) (λ p. p.end) (node_count net) v ps

-- so do parts of a flow, from node v on
abbrev pub AreFlowParts : FlowNet → ℕ → List FlowPart → Type 0
AreFlowParts net v qs = IsParted (FlowPartFits net) (λ q. q.first) (λ q. q.end) (node_count net) v qs

-- the pushes of all parts, joined
abbrev pub values_of : List PushPart → List ℕ
values_of ps = flat_map (λ p. p.values.items) ps

-- how many rows were walked for pushes, over all parts
abbrev pub rows_walked : List PushPart → ℕ
rows_walked [] = 0
rows_walked (p ∷ ps) = p.walked + rows_walked ps

-- what Deliver writes: rows of residuals by arc, excess and new labels by node
pub record Cells : Type 0 where
  pub residuals : List ℕ
  pub excess : List ℕ
  pub next : List ℕ

-- residuals, excess and new labels of a part
abbrev pub part_cells : FlowPart → Cells
part_cells q = record { residuals = q.residuals.items; excess = q.excess.items; next = q.next.items }

-- residuals, excess and new labels of all parts, joined
abbrev pub cells_of : List FlowPart → Cells
cells_of qs = record { residuals = flat_map (λ q. q.residuals.items) qs; excess = flat_map (λ q. q.excess.items) qs; next = flat_map (λ q. q.next.items) qs }

-- ---- the state by pairs of nodes

-- values by arc, as a function on pairs of nodes: 0 if there is no arc
abbrev pub pair : FlowNet → List ℕ → ℕ → ℕ → ℕ
pair net xs v w = sparse (row_len net v) (head net v) (λ k. slice_index xs (start net v + k)) w

-- the state on pairs of nodes that the cells and labels are
abbrev pub pairs : FlowNet → Cells → List ℕ → State
pairs net c labels = record { res = pair net c.residuals; excess = slice_index c.excess; label = slice_index labels }

-- two states have equal residuals, excess and labels at the nodes below n
pub record Agree (n : ℕ) (s t : State) : Type 0 where
  pub res : (v w : ℕ) → v < n → w < n → s.res v w ≡ t.res v w
  pub excess : (v : ℕ) → v < n → s.excess v ≡ t.excess v
  pub label : (v : ℕ) → v < n → s.label v ≡ t.label v

-- a preflow with valid labels, whose excess in all fits a word
pub record IsSound (net : FlowNet) (s : State) : Type 0 where
  pub preflow : IsPreflow (node_count net) (pair net net.caps) s
  pub valid : IsValid (node_count net) s
  pub total : sum_below (node_count net) s.excess < 2 ^ 32

-- a label for each node, and none above the number of nodes
pub record LabelsFit (net : FlowNet) (labels : List ℕ) : Type 0 where
  pub each : length labels ≡ node_count net
  pub small : (w : ℕ) → w < node_count net → slice_index labels w ≤ node_count net

-- ---- places

-- node v stands at place i, and its row at place s, of cells that begin with arc `base` and node
-- `first`
pub record Within (net : FlowNet) (base first : ℕ) (c : Cells) (v i s : ℕ) : Type 0 where
  pub node : v < node_count net
  pub at : first + i ≡ v
  pub row : base + s ≡ start net v
  pub in_rows : s + row_len net v ≤ length c.residuals
  pub in_nodes : i < length c.excess

-- a part that holds node v: its row and its excess stand at these places
pub record HoldsNode (net : FlowNet) (c : Cells) (v : ℕ) (q : FlowPart) : Type 0 where
  pub low : q.first ≤ v
  pub from : q.base ≤ start net v
  pub in_nodes : v < q.first + length q.excess.items
  pub in_arcs : start net (v + 1) ≤ q.base + length q.residuals.items
  pub residuals : (j : ℕ) → j < row_len net v → slice_index q.residuals.items (start net v - q.base + j) ≡ slice_index c.residuals (start net v + j)
  pub excess : slice_index q.excess.items (v - q.first) ≡ slice_index c.excess v

-- the cells hold the rows and the nodes from low up to high
pub record RangeFits (net : FlowNet) (base first low high : ℕ) (c : Cells) : Type 0 where
  pub within : high ≤ node_count net
  pub from_node : first ≤ low
  pub to_node : high ≤ first + length c.excess
  pub from_arc : base ≤ start net low
  pub to_arc : start net high ≤ base + length c.residuals
  pub same : length c.next ≡ length c.excess
