-- Cuts of a circuit's network, and closed sets.
use Rattle.std.specs.Prelude.{◌≡◌, ℕ, ◌+◌, ◌<◌, ◌≤◌, ◌↔◌, Bool, true, false, List, Some}
use Rattle.std.specs.List.Sorted.{IsStrictlyIncreasing}
use Rattle.frame_net.specs.Flow.{IsCut, cut_value}
use Rattle.frame_net.specs.Laws.{IsGreatestLeastCut}
use Rattle.aig_graph.specs.Marking.{has}
use Rattle.aig_graph.specs.Graph.{IsGraph}
use Rattle.aig_graph.specs.Circuits.{Netlist}
use Rattle.aig_graph.specs.Closed.{IsClosedSet}
use Rattle.aig_graph.specs.Move.{move_of}
use Rattle.aig_graph.specs.Border.{border_size, IsGreatestLeast}
use Rattle.frame_net.specs.FlowNet.{FlowNet, HasPoints, node_count, capacity_between, point_of}
use Rattle.frame_net.specs.Capacity.{IsNetOf}

-- no arc of the unbounded capacity leaves the set of nodes
abbrev pub NoUnboundedLeaves : FlowNet → (ℕ → Bool) → Type 0
NoUnboundedLeaves net side = (v w : ℕ) → v < node_count net → w < node_count net → side v ≡ true → side w ≡ false → capacity_between net v w < net.latches + 1

-- s lists the gates with the point before them in the set of nodes
pub record AreGatesOf (net : FlowNet) (side : ℕ → Bool) (s : List ℕ) : Type 0 where
  pub rising : IsStrictlyIncreasing s
  pub each : (v : ℕ) → (has s v ≡ true) ↔ ((n : ℕ) × ((n < node_count net) × ((side n ≡ true) × (point_of net n ≡ Some (record { var = v; behind = false })))))

-- the network is that of a circuit and its held latches
pub record IsNetworkOf (c : Netlist) (held : List ℕ) (net : FlowNet) : Type 0 where
  pub valid : IsGraph c.aig
  pub is_net : IsNetOf c.aig c.props held net
  pub points : HasPoints net

-- the capacity of the arcs that leave a set of nodes
abbrev pub leaving : FlowNet → (ℕ → Bool) → ℕ
leaving net side = cut_value (node_count net) (capacity_between net) side

-- the gates of a cut that no unbounded arc leaves are a closed set, whose border is no larger than
-- the cut
abbrev pub CutsAreClosed : Type 0
CutsAreClosed = (c : Netlist) (held : List ℕ) (net : FlowNet) (side : ℕ → Bool) (s : List ℕ) → IsNetworkOf c held net → IsCut side → NoUnboundedLeaves net side → AreGatesOf net side s
    → IsClosedSet c.aig held s × (border_size (move_of c held s) ≤ leaving net side)

-- a cut for a closed set, with as many arcs leaving it as its border has variables
pub record IsCutOf (c : Netlist) (held : List ℕ) (net : FlowNet) (s : List ℕ) (side : ℕ → Bool) : Type 0 where
  pub is_cut : IsCut side
  pub no_great : NoUnboundedLeaves net side
  pub gates : AreGatesOf net side s
  pub count : leaving net side ≡ border_size (move_of c held s)

-- each closed set is that of a cut, with equal sizes
abbrev pub ClosedSetsAreCuts : Type 0
ClosedSetsAreCuts = (c : Netlist) (held : List ℕ) (net : FlowNet) (s : List ℕ) → IsNetworkOf c held net → IsClosedSet c.aig held s → (side : ℕ → Bool) × IsCutOf c held net s side

-- the gates of the greatest least cut are the greatest least set
abbrev pub GreatestCutIsGreatestSet : Type 0
GreatestCutIsGreatestSet = (c : Netlist) (held : List ℕ) (net : FlowNet) (side : ℕ → Bool) (s : List ℕ) → IsNetworkOf c held net
    → IsGreatestLeastCut (node_count net) (capacity_between net) side → AreGatesOf net side s → IsGreatestLeast c held s
