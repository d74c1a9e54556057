use Rattle.std.specs.Prelude.{◌≡◌, ℕ, suc, zero, ◌<◌, ◌≤◌, ◌||◌, Bool, true, false, List}
use Rattle.frame_net.specs.Flow.{State, pulse, is_active}
use Rattle.frame_net.specs.FlowNet.{FlowNet, node_count}
use Rattle.pulse_parts.specs.declared.parts.FlowPart.{FlowPart}
use Rattle.pulse_parts.specs.declared.parts.PushPart.{PushPart}
use Rattle.pulse_parts.specs.Delivering.{HoldPushes}
use Rattle.pulse_parts.specs.Listing.{active_in}
use Rattle.pulse_parts.specs.Parts.{AreFlowParts, ArePushParts, LabelsFit, pairs, cells_of, values_of, Agree}

-- some number below n passes
abbrev pub any_below : ℕ → (ℕ → Bool) → Bool
any_below zero p = false
any_below (suc n) p = any_below n p || p n

-- some node is active
abbrev pub any_active : ℕ → State → Bool
any_active n s = any_below n (is_active n s)

-- some node of the part is active, and none is
pub record HasActive (nodes : ℕ) (labels : List ℕ) (q : FlowPart) : Type 0 where
  pub node : ℕ
  pub low : q.first ≤ node
  pub high : node < q.end
  pub active : active_in nodes labels q.first q.excess.items node ≡ true

abbrev pub LacksActive : ℕ → List ℕ → FlowPart → Type 0
LacksActive nodes labels q = (v : ℕ) → q.first ≤ v → v < q.end → active_in nodes labels q.first q.excess.items v ≡ false

-- parts of the flow and of the pushes of all nodes, and the labels
pub record PartsFit (net : FlowNet) (labels : List ℕ) (qs : List FlowPart) (ps : List PushPart) : Type 0 where
  pub flow : AreFlowParts net 0 qs
  pub labelled : LabelsFit net labels
  pub pushes : ArePushParts net 0 ps

-- the pushes once every node was read
pub record AreRead (net : FlowNet) (labels : List ℕ) (qs : List FlowPart) (rs : List PushPart) : Type 0 where
  pub cut : ArePushParts net 0 rs
  pub holds : HoldPushes net (pairs net (cells_of qs) labels) (values_of rs)

-- the parts and the labels after a pulse
pub record ArePulsed (net : FlowNet) (labels next : List ℕ) (qs us : List FlowPart) : Type 0 where
  pub flow : AreFlowParts net 0 us
  pub labelled : LabelsFit net next
  pub agree : Agree (node_count net) (pulse (node_count net) (pairs net (cells_of qs) labels)) (pairs net (cells_of us) next)
