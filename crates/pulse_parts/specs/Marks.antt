use Rattle.std.specs.Prelude.{◌≡◌, ℕ, ◌<◌, ◌≤◌, nat_lt, nat_le, ◌&&◌, ◌||◌, Bool, true, false, List}
use Rattle.frame_net.specs.FlowNet.{FlowNet, node_count, start, row_len, IsFlowNet}
use Rattle.pulse_parts.specs.Parts.{Cells, IsSound, pairs}
use Rattle.pulse_parts.specs.Reading.{cells_push}
use Rattle.pulse_parts.specs.Delivering.{own, HoldPushes, NodeDelivered, NodeKept}

-- the marks, once the nodes from first up to end have theirs too
abbrev pub and_range : (ℕ → Bool) → ℕ → ℕ → ℕ → Bool
and_range marks first end v = marks v || (nat_le first v && nat_lt v end)

-- no node of the range is marked
abbrev pub NoneMarked : (ℕ → Bool) → ℕ → ℕ → Type 0
NoneMarked marks first end = (v : ℕ) → first ≤ v → v < end → marks v ≡ false

abbrev pub AllMarked : ℕ → (ℕ → Bool) → Type 0
AllMarked n marks = (v : ℕ) → v < n → marks v ≡ true

-- the rows of the marked nodes are what Read writes
pub record ReadSoFar (net : FlowNet) (labels : List ℕ) (marks : ℕ → Bool) (c : Cells) (pushes : List ℕ) : Type 0 where
  pub rows : (v k : ℕ) → v < node_count net → marks v ≡ true → k < row_len net v
      → own net pushes v k ≡ cells_push net labels c v k

-- from an opening state the marked nodes were delivered, and no others
pub record DeliveredSoFar (net : FlowNet) (labels pushes : List ℕ) (marks : ℕ → Bool) (opening now : Cells) : Type 0 where
  pub given : (v : ℕ) → v < node_count net → marks v ≡ true → NodeDelivered net labels pushes v v (start net v) opening now
  pub kept : (v : ℕ) → v < node_count net → marks v ≡ false → NodeKept net v v (start net v) opening now

-- from a sound opening state Read of every node gave these pushes, and Deliver of the marked nodes
-- these cells
pub record IsPartlyDelivered (net : FlowNet) (labels pushes : List ℕ) (marks : ℕ → Bool) (now : Cells) : Type 0 where
  pub opening : Cells
  pub sound : IsSound net (pairs net opening labels)
  pub is_read : HoldPushes net (pairs net opening labels) pushes
  pub so_far : DeliveredSoFar net labels pushes marks opening now

-- rows that were all read hold what each node pushes, and a delivery begins with no mark
pub record RangeLaws : Type 0 where
  pub all_read : (net : FlowNet) (labels pushes : List ℕ) (marks : ℕ → Bool) (c : Cells) → IsFlowNet net → AllMarked (node_count net) marks → ReadSoFar net labels marks c pushes
      → HoldPushes net (pairs net c labels) pushes
  pub begins : (net : FlowNet) (labels pushes : List ℕ) (c : Cells) → IsSound net (pairs net c labels) → HoldPushes net (pairs net c labels) pushes → IsPartlyDelivered net labels pushes (λ v. false) c
