-- What it means that a flow and pushes are of a network.
use Rattle.std.specs.Prelude.{◌≡◌, ℕ, ◌<◌, false, cond, length, slice_index, slice_index_or, Bool}
use Rattle.frame_net.specs.Flow.{State, IsPreflow, IsValid, is_active, sum_below}
use Rattle.frame_net.specs.Laws.{started}
use Rattle.frame_net.specs.FlowNet.{FlowNet, node_count, cap_at, IsFlowNet}
use Rattle.pulse_parts.specs.Parts.{Cells, LabelsFit, IsSound, Agree, pair, pairs}
use Rattle.pulse_parts.specs.Marks.{AllMarked}
use Rattle.pulse_parts.specs.ExactRuns.{IsRun}
use Rattle.pulse.specs.Values.{FlowState, PushState, RunEnd, AreFlowRanges, ArePushRanges}

-- there is a residual for each arc, and an excess and a next label for each node
pub record CellsFit (net : FlowNet) (c : Cells) : Type 0 where
  pub residuals : length c.residuals ≡ length net.heads
  pub excess : length c.excess ≡ node_count net
  pub next : length c.next ≡ node_count net

-- a flow of the network; of one that is spent the labels and the capacities are left
pub record IsFlowOf (net : FlowNet) (f : FlowState) : Type 0 where
  pub ranges : f.spent ≡ false → AreFlowRanges net 0 f.ranges
  pub sized : f.spent ≡ false → CellsFit net f.cells
  pub labelled : LabelsFit net f.labels
  pub marks : length f.delivered ≡ node_count net
  pub caps_sized : length f.caps ≡ length net.heads
  pub caps : (arc : ℕ) → arc < length net.heads → slice_index f.caps arc ≡ cap_at net arc

-- pushes over the arcs of the network
pub record ArePushesOf (net : FlowNet) (p : PushState) : Type 0 where
  pub ranges : p.spent ≡ false → ArePushRanges net 0 p.ranges
  pub sized : p.spent ≡ false → length p.values ≡ length net.heads

-- the state on pairs of nodes
abbrev pub state_of : FlowNet → FlowState → State
state_of net f = pairs net f.cells f.labels

-- whether node v was delivered since the last turn
abbrev pub is_marked : FlowState → ℕ → Bool
is_marked f v = slice_index_or f.delivered v false

-- no node was delivered since the last turn
abbrev pub NoneDelivered : FlowNet → FlowState → Type 0
NoneDelivered net f = (v : ℕ) → v < node_count net → is_marked f v ≡ false

-- a flow of the network between two pulses
pub record IsBetween (net : FlowNet) (f : FlowState) : Type 0 where
  pub fits : IsFlowOf net f
  pub unspent : f.spent ≡ false
  pub none : NoneDelivered net f
  pub sound : IsSound net (state_of net f)

-- the flow at the start: the arcs out of the source are full
pub record IsStart (net : FlowNet) (f : FlowState) : Type 0 where
  pub between : IsBetween net f
  pub agree : Agree (node_count net) (started (node_count net) (pair net net.caps)) (state_of net f)

-- a flow whose nodes all were delivered, so new labels can become its labels
pub record IsTurnable (f : FlowState) : Type 0 where
  pub net : FlowNet
  pub ok : IsFlowNet net
  pub fits : IsFlowOf net f
  pub unspent : f.spent ≡ false
  pub all : AllMarked (node_count net) (is_marked f)

-- no node is active
abbrev pub NoneActive : FlowNet → FlowState → Type 0
NoneActive net f = (v : ℕ) → v < node_count net → is_active (node_count net) (state_of net f) v ≡ false

-- how many nodes are active
abbrev pub active_count : FlowNet → FlowState → ℕ
active_count net f = sum_below (node_count net) (λ v. cond (is_active (node_count net) (state_of net f) v) 1 0)

-- a greatest flow of the network, as a preflow: excess that can't reach the sink stays
pub record IsMaxPreflow (net : FlowNet) (m : RunEnd) : Type 0 where
  pub fits : IsFlowOf net m.flow
  pub unspent : m.flow.spent ≡ false
  pub preflow : IsPreflow (node_count net) (pair net net.caps) (state_of net m.flow)
  pub valid : IsValid (node_count net) (state_of net m.flow)
  pub none_active : NoneActive net m.flow

-- the end of the run by pulses from the start, with exact labels after each N-th that leaves a node
-- active
abbrev pub IsRunEnd : FlowNet → RunEnd → Type 0
IsRunEnd net m = IsRun net m.pulses (started (node_count net) (pair net net.caps)) (state_of net m.flow)
