-- What one node pushes to another, by the rows of both.
use Rattle.std.specs.Prelude.{◌≡◌, ◌≢◌, ℕ, ◌+◌, ◌<◌, ◌^◌, ◌⊎◌, true, List, length, slice_index, slice_index_or}
use Rattle.frame_net.specs.FlowNet.{FlowNet, node_count, row_len, head}
use Rattle.pulse_parts.specs.Delivering.{own, back}
use Rattle.pulse_parts.specs.declared.parts.PushPart.{PushPart}
use Rattle.pulse_parts.specs.Listing.{IsListed, IsRising}

-- each node that pushes is listed
abbrev pub ListsSenders : FlowNet → List ℕ → List ℕ → Type 0
ListsSenders net xs list = (u k : ℕ) → u < node_count net → k < row_len net u → 0 < own net xs u k → IsListed list u

-- each part lists the nodes of it that push, in rising order
abbrev pub ListInOrder : List PushPart → Type 0
ListInOrder ps = (i : ℕ) (d : PushPart) → i < length ps → ((slice_index_or ps i d).pushing.complete ≡ true) × IsRising (slice_index_or ps i d).pushing.nodes.items

-- a row of v's residuals has room for the pushes over the mates of its arcs
abbrev pub RowFits : FlowNet → List ℕ → ℕ → List ℕ → Type 0
RowFits net xs v row = (k : ℕ) → k < row_len net v → slice_index row k + back net xs v k < 2 ^ 32

-- these pushes are added to v's row
abbrev pub AddsPushes : FlowNet → List ℕ → ℕ → List ℕ → List ℕ → Type 0
AddsPushes net xs v old new = (k : ℕ) → k < row_len net v → slice_index new k ≡ slice_index old k + back net xs v k

-- v's row has an arc to u, and what u pushes over its mate is added to the arc's residual
pub record ReceivesPush (net : FlowNet) (xs : List ℕ) (u v : ℕ) (old new : List ℕ) (push : ℕ) : Type 0 where
  pub place : ℕ
  pub inside : place < row_len net v
  pub sender : head net v place ≡ u
  pub pushed : push ≡ back net xs v place
  pub added : slice_index new place ≡ slice_index old place + push
  pub others : (k : ℕ) → k ≢ place → slice_index new k ≡ slice_index old k

-- v's row has no arc to u
pub record ReceivesNothing (net : FlowNet) (u v : ℕ) (old new : List ℕ) (push : ℕ) : Type 0 where
  pub none : (k : ℕ) → k < row_len net v → head net v k ≢ u
  pub pushed : push ≡ 0
  pub same : new ≡ old

-- the row of a node gets what another pushes to it, or has no arc to that one
abbrev pub Receives : FlowNet → List ℕ → ℕ → ℕ → List ℕ → List ℕ → ℕ → Type 0
Receives net xs u v old new push = ReceivesPush net xs u v old new push ⊎ ReceivesNothing net u v old new push
