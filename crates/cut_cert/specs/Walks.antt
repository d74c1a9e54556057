-- Walks back from the sink over what each arc carries.
use Rattle.std.specs.Prelude.{◌≡◌, ℕ, ◌+◌, ◌-◌, ◌<◌, ◌≤◌, ◌==◌, ◌⊎◌, ◌++◌, Bool, true, false, List, [], ◌∷◌, length, slice_set, slice_index, slice_index_or, Option, Some, None, if◌then◌else◌}
use Rattle.std.specs.List.{IsDistinct}
use Rattle.frame_net.specs.Flow.{sum_below}
use Rattle.aig_graph.specs.Marking.{has}
use Rattle.aig_graph.specs.Circuits.{Netlist}
use Rattle.frame_net.specs.declared.net.Point.{Point}
use Rattle.frame_net.specs.FlowNet.{FlowNet, node_count, row_len, head, mate, cap_at, point_of, capacity_between}
use Rattle.pulse_parts.specs.Parts.{pair}
use Rattle.frame_net.specs.Cuts.{IsNetworkOf}
use Rattle.certificates.specs.Routes.{is_route, passed}
use Rattle.cut_cert.specs.Shown.{HasNoPointTwice}

-- ---- what arcs carry

-- the capacity of each arc less its residual, if it is more
pub record AreArcFlows (net : FlowNet) (residuals xs : List ℕ) : Type 0 where
  pub long : length xs ≡ length net.heads
  pub each : (arc : ℕ) → arc < length net.heads → slice_index xs arc ≡ cap_at net arc - slice_index residuals arc

-- what goes out of a node, what comes in, and all together
abbrev pub out_of : FlowNet → List ℕ → ℕ → ℕ
out_of net xs v = sum_below (node_count net) (pair net xs v)

abbrev pub into : FlowNet → List ℕ → ℕ → ℕ
into net xs v = sum_below (node_count net) (λ u. pair net xs u v)

abbrev pub total_outflow : FlowNet → List ℕ → ℕ
total_outflow net xs = sum_below (node_count net) (out_of net xs)

-- an arc into w that carries something: the mate of w's k-th
pub record Comes (net : FlowNet) (xs : List ℕ) (w k : ℕ) : Type 0 where
  pub node : w < node_count net
  pub inside : k < row_len net w
  pub some : 0 < slice_index xs (mate net w k)

-- from one place of w's row up to another nothing comes in
abbrev pub NoneComes : FlowNet → List ℕ → ℕ → ℕ → ℕ → Type 0
NoneComes net xs w from end = (k : ℕ) → from ≤ k → k < end → slice_index xs (mate net w k) ≡ 0

-- for each node a place of its row before which nothing comes in
pub record AreSearched (net : FlowNet) (xs places : List ℕ) : Type 0 where
  pub long : length places ≡ node_count net
  pub none : (w : ℕ) → w < node_count net → NoneComes net xs w 0 (slice_index places w)

-- the mate of w's k-th arc carries one less
abbrev pub lowered : FlowNet → List ℕ → ℕ → ℕ → List ℕ
lowered net xs w k = slice_set xs (mate net w k) (slice_index xs (mate net w k) - 1)

-- ---- one step

-- from a node with a point to the tail of an arc into it
pub record StepsBack (net : FlowNet) (old new : List ℕ) (at tail : ℕ) : Type 0 where
  pub point : Point
  pub is_at : point_of net at ≡ Some point
  pub place : ℕ
  pub comes : Comes net old at place
  pub is_tail : tail ≡ head net at place
  pub carried : new ≡ lowered net old at place

-- a node without a point, or one into which nothing comes
pub record Stays (net : FlowNet) (old new : List ℕ) (at : ℕ) : Type 0 where
  pub carried : new ≡ old
  pub why : (point_of net at ≡ None) ⊎ NoneComes net old at 0 (row_len net at)

-- ---- the nodes of a walk, the latest first

-- a mark for each node of a trail, and for no other; no node stands on it twice
pub record AreOn (n : ℕ) (marks : List Bool) (trail : List ℕ) : Type 0 where
  pub long : length marks ≡ n
  pub each : (v : ℕ) → slice_index_or marks v false ≡ has trail v
  pub apart : IsDistinct (λ v w. v == w) trail

-- if a walk comes back to a node of its trail, the loop and the node are forgotten
pub record ComesTo (node : ℕ) (old new : List ℕ) : Type 0 where
  pub off : has new node ≡ false
  pub how : (new ≡ old) ⊎ ((loop : List ℕ) × (old ≡ loop ++ node ∷ new))

abbrev pub and_point : Option Point → List Point → List Point
and_point None points = points
and_point (Some point) points = point ∷ points

-- the points of nodes
abbrev pub points_of : FlowNet → List ℕ → List Point
points_of net [] = []
points_of net (v ∷ nodes) = and_point (point_of net v) (points_of net nodes)

-- ---- what a walk keeps

-- 1 at a node, 0 at all others
unfoldable pub here : ℕ → ℕ → ℕ
here v at = if v == at then 1 else 0

-- No pair carries more than its capacity. At each inner node no more goes out than comes in, and
-- less at the walk's node.
pub record IsPreflowAt (net : FlowNet) (xs : List ℕ) (at : ℕ) : Type 0 where
  pub long : length xs ≡ length net.heads
  pub within : (v w : ℕ) → v < node_count net → w < node_count net → pair net xs v w ≤ capacity_between net v w
  pub kept : (v : ℕ) → 1 < v → v < node_count net → out_of net xs v + here v at ≤ into net xs v

-- nothing comes in after the variable
abbrev pub Spent : FlowNet → List ℕ → ℕ → Type 0
Spent net xs v = (x y : ℕ) → x < node_count net → y < node_count net → point_of net y ≡ Some (record { var = v; behind = true }) → pair net xs x y ≡ 0

-- what is left of a flow after routes that pass after these variables
pub record Ready (net : FlowNet) (xs past : List ℕ) : Type 0 where
  pub holds : IsPreflowAt net xs 1
  pub spent : (v : ℕ) → has past v ≡ true → Spent net xs v

-- what a walk has made: a route apart from the earlier ones, and of the units that reached the sink
-- one less
pub record Walked (c : Netlist) (held : List ℕ) (net : FlowNet) (past : List ℕ) (reached : ℕ) (xs : List ℕ) (route : List Point) : Type 0 where
  pub holds : IsPreflowAt net xs 1
  pub right : is_route c held route ≡ true
  pub apart : IsDistinct (λ v w. v == w) (passed route)
  pub off : (v : ℕ) → has (passed route) v ≡ true → has past v ≡ false
  pub spent : (v : ℕ) → (has (passed route) v ≡ true) ⊎ (has past v ≡ true) → Spent net xs v
  pub count : into net xs 1 + 1 ≡ reached

-- what a walk has made, in every circuit with this network
pub record WalkedBack (net : FlowNet) (old new : List ℕ) (route : List Point) : Type 0 where
  pub long : length new ≡ length net.heads
  pub less : total_outflow net new < total_outflow net old
  pub none_more : (arc : ℕ) → slice_index new arc ≤ slice_index old arc
  pub once : (c : Netlist) (held : List ℕ) → IsNetworkOf c held net → HasNoPointTwice route
  pub walked : (c : Netlist) (held past : List ℕ) → IsNetworkOf c held net → Ready net old past → Walked c held net past (into net old 1) new route
