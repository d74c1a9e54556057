-- The greatest of the least cuts, the near side of a greatest flow, and the smallest of the least
-- cuts.
use Rattle.std.specs.Prelude.{◌≡◌, ℕ, ◌<◌, ◌≤◌, Bool, true, false, List}
use Rattle.frame_net.specs.Flow.{State, IsPreflow, IsCut, cut_value}
use Rattle.aig_graph.specs.Circuits.{Netlist}
use Rattle.aig_graph.specs.Border.{IsGreatestLeast, IsSmallestLeast}
use Rattle.frame_net.specs.FlowNet.{FlowNet, node_count, capacity_between}
use Rattle.frame_net.specs.Cuts.{AreGatesOf, IsNetworkOf}

-- s is the greatest least set of each circuit and held latches with this network
abbrev pub IsGreatestLeastOf : FlowNet → List ℕ → Type 0
IsGreatestLeastOf net s = (c : Netlist) (held : List ℕ) → IsNetworkOf c held net → IsGreatestLeast c held s

-- no residual arc leaves the set of nodes
abbrev pub NoneLeaves : ℕ → State → (ℕ → Bool) → Type 0
NoneLeaves n s side = (v w : ℕ) → v < n → w < n → side v ≡ true → 0 < s.res v w → side w ≡ true

-- the nodes to which residual arcs lead from the source: the least set with the source that none
-- leaves
pub record IsNearSide (n : ℕ) (s : State) (side : ℕ → Bool) : Type 0 where
  pub with_source : side 0 ≡ true
  pub none_leaves : NoneLeaves n s side
  pub within : (other : ℕ → Bool) → other 0 ≡ true → NoneLeaves n s other → (v : ℕ) → v < n → side v ≡ true → other v ≡ true

-- a cut of least value that lies in every such cut
pub record IsSmallestLeastCut (n : ℕ) (cap : ℕ → ℕ → ℕ) (side : ℕ → Bool) : Type 0 where
  pub is_cut : IsCut side
  pub least : (other : ℕ → Bool) → IsCut other → cut_value n cap side ≤ cut_value n cap other
  pub smallest : (other : ℕ → Bool) → IsCut other → cut_value n cap other ≤ cut_value n cap side → (v : ℕ) → v < n → side v ≡ true → other v ≡ true

-- if inner nodes keep no excess, a near side without the sink is the smallest least cut
abbrev pub NearSideIsSmallest : Type 0
NearSideIsSmallest = (n : ℕ) (cap : ℕ → ℕ → ℕ) (s : State) (side : ℕ → Bool) → 1 < n → IsPreflow n cap s
    → ((v : ℕ) → 1 < v → v < n → s.excess v ≡ 0) → IsNearSide n s side → side 1 ≡ false → IsSmallestLeastCut n cap side

-- the gates of the smallest least cut are the smallest least set
abbrev pub SmallestCutIsSmallestSet : Type 0
SmallestCutIsSmallestSet = (c : Netlist) (held : List ℕ) (net : FlowNet) (side : ℕ → Bool) (s : List ℕ) → IsNetworkOf c held net
    → IsSmallestLeastCut (node_count net) (capacity_between net) side → AreGatesOf net side s → IsSmallestLeast c held s
