-- What ranges, turns and phases do.
use Rattle.std.specs.Prelude.{◌≡◌, ℕ, ◌+◌, ◌-◌, ◌<◌, ◌≤◌, ◌⊎◌, ◌^◌, min, false, true, List}
use Rattle.frame_net.specs.Flow.{pulse}
use Rattle.frame_net.specs.FlowNet.{FlowNet, node_count, start, row_len, IsFlowNet}
use Rattle.pulse_parts.specs.Parts.{Cells, IsSound, Agree, pairs}
use Rattle.pulse_parts.specs.Reading.{active_from, cells_push}
use Rattle.pulse_parts.specs.Delivering.{own, HoldPushes, NodeKept}
use Rattle.pulse_parts.specs.Marks.{and_range, AllMarked, DeliveredSoFar}
use Rattle.pulse.specs.Values.{FlowState, PushState}
use Rattle.pulse.specs.Conditions.{IsFlowOf, ArePushesOf, IsBetween, is_marked, state_of}

-- just the nodes from first up to end have written their rows of pushes; their active ones were
-- counted
pub record RangeRead (net : FlowNet) (f : FlowState) (first end : ℕ) (old new : PushState) : Type 0 where
  pub fits : ArePushesOf net new
  pub unspent : new.spent ≡ false
  pub done : (v k : ℕ) → v < node_count net → first ≤ v → v < end → k < row_len net v → own net new.values v k ≡ cells_push net f.labels f.cells v k
  pub kept : (v k : ℕ) → v < node_count net → (v < first) ⊎ (end ≤ v) → k < row_len net v → own net new.values v k ≡ own net old.values v k
  pub walked : new.walked ≡ min (old.walked + active_from net f.labels f.cells first end) (2 ^ 32 - 1)

-- the nodes from first up to end were delivered too, and no other node has changed
pub record RangeDelivered (net : FlowNet) (p : PushState) (first end : ℕ) (old new : FlowState) : Type 0 where
  pub fits : IsFlowOf net new
  pub unspent : new.spent ≡ false
  pub labels : new.labels ≡ old.labels
  pub marks : (v : ℕ) → v < node_count net → is_marked new v ≡ and_range (is_marked old) first end v
  pub delivered : (opening : Cells) → DeliveredSoFar net old.labels p.values (is_marked old) opening old.cells → DeliveredSoFar net old.labels p.values (is_marked new) opening new.cells
  pub kept : (v : ℕ) → v < node_count net → (v < first) ⊎ (end ≤ v) → NodeKept net v v (start net v) old.cells new.cells

-- the flow after a pulse
pub record AfterPulse (net : FlowNet) (old new : FlowState) : Type 0 where
  pub between : IsBetween net new
  pub agree : Agree (node_count net) (pulse (node_count net) (state_of net old)) (state_of net new)

-- the turn of a flow whose nodes all were delivered from an opening state ends that state's pulse
abbrev pub Turns : FlowState → FlowState → Type 0
Turns old new = (net : FlowNet) (pushes : List ℕ) (opening : Cells) → IsFlowNet net → IsFlowOf net old → AllMarked (node_count net) (is_marked old)
    → IsSound net (pairs net opening old.labels) → HoldPushes net (pairs net opening old.labels) pushes → DeliveredSoFar net old.labels pushes (is_marked old) opening old.cells
    → IsBetween net new × Agree (node_count net) (pulse (node_count net) (pairs net opening old.labels)) (state_of net new)

-- pushes of a read phase over this flow, which is between two pulses
pub record IsReadPhase (net : FlowNet) (f : FlowState) (p : PushState) : Type 0 where
  pub between : IsBetween net f
  pub holds : HoldPushes net (state_of net f) p.values

-- after a whole read phase
pub record AfterRead (net : FlowNet) (f : FlowState) (old new : PushState) : Type 0 where
  pub flow : f.spent ≡ false
  pub before : old.spent ≡ false
  pub after : new.spent ≡ false
  pub holds : HoldPushes net (state_of net f) new.values

-- after a whole delivery phase
pub record AfterDelivery (net : FlowNet) (old new : FlowState) (p : PushState) : Type 0 where
  pub before : old.spent ≡ false
  pub pushes : p.spent ≡ false
  pub pulse : AfterPulse net old new

-- after a refused delivery phase: the flow is spent; its labels, marks and capacities are unchanged
pub record AfterRefusal (old new : FlowState) : Type 0 where
  pub spent : new.spent ≡ true
  pub labels : new.labels ≡ old.labels
  pub delivered : new.delivered ≡ old.delivered
  pub caps : new.caps ≡ old.caps
