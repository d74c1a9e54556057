-- Routes as walks over nodes, and the arcs that they use.
use Rattle.std.specs.Prelude.{◌≡◌, ℕ, ◌+◌, ◌<◌, ◌==◌, ◌&&◌, ◌||◌, nat_lt, not, cond, Bool, true, false, List, [], ◌∷◌, length, slice_index_or, Option, Some, None}
use Rattle.frame_net.specs.declared.net.Point.{Point}
use Rattle.frame_net.specs.FlowNet.{FlowNet, node_count, start, row_len, head, mate, cap_at, point_of}
use Rattle.cut_cert.specs.Walks.{here}

-- in the order of the nodes: those without a point, then by variable, before it first
abbrev pub precedes : Option Point → Option Point → Bool
precedes None o = true
precedes (Some p) None = false
precedes (Some p) (Some q) = nat_lt p.var q.var || (p.var == q.var && not p.behind && q.behind)

abbrev pub PointsRise : FlowNet → Type 0
PointsRise net = (x y : ℕ) → x < y → y < node_count net → precedes (point_of net x) (point_of net y) ≡ true

-- how often a walk that goes on from node a steps from x to y
unfoldable pub steps_of : ℕ → List ℕ → ℕ → ℕ → ℕ
steps_of a [] x y = 0
steps_of a (b ∷ nodes) x y = cond (x == a) (here y b) 0 + steps_of b nodes x y

-- how often walks from the source step from x to y
unfoldable pub all_steps : List (List ℕ) → ℕ → ℕ → ℕ
all_steps [] x y = 0
all_steps (nodes ∷ walks) x y = steps_of 0 nodes x y + all_steps walks x y

-- an arc leads from a to b
abbrev pub HasArc : FlowNet → ℕ → ℕ → Type 0
HasArc net a b = (k : ℕ) × ((k < row_len net a) × (head net a k ≡ b))

-- the nodes of the points, each at the head of an arc from the one before, the first of an arc from
-- node a
abbrev pub IsWay : FlowNet → ℕ → List ℕ → List Point → Type 0
IsWay net a [] [] = Unit {0}
IsWay net a [] (p ∷ points) = ⊥
IsWay net a (b ∷ nodes) [] = ⊥
IsWay net a (b ∷ nodes) (p ∷ points) = HasArc net a b × ((point_of net b ≡ Some p) × IsWay net b nodes points)

-- there are as many routes as ways, each the points of the nodes of its way
abbrev pub AreWays : FlowNet → List (List ℕ) → List (List Point) → Type 0
AreWays net [] [] = Unit {0}
AreWays net [] (route ∷ routes) = ⊥
AreWays net (nodes ∷ ways) [] = ⊥
AreWays net (nodes ∷ ways) (route ∷ routes) = IsWay net 0 nodes route × AreWays net ways routes

-- whether the k-th arc from x is marked
abbrev pub is_used : FlowNet → List Bool → ℕ → ℕ → Bool
is_used net used x k = slice_index_or used (start net x + k) false

-- the arcs over which the walk goes are marked besides
abbrev pub Adds : FlowNet → List Bool → List Bool → ℕ → List ℕ → Type 0
Adds net old new a nodes = (x k : ℕ) → x < node_count net → k < row_len net x
    → is_used net new x k ≡ (is_used net old x k || nat_lt 0 (steps_of a nodes x (head net x k)))

-- marks of the arcs over which the routes go
pub record AreUsed (net : FlowNet) (routes : List (List Point)) (used : List Bool) : Type 0 where
  pub long : length used ≡ length net.heads
  pub each : PointsRise net → (ways : List (List ℕ)) → AreWays net ways routes → (x k : ℕ) → x < node_count net → k < row_len net x
      → is_used net used x k ≡ nat_lt 0 (all_steps ways x (head net x k))

abbrev pub is_behind : Option Point → Bool
is_behind None = false
is_behind (Some p) = p.behind

-- Whether the k-th arc from x has a residual: a route goes the other way, or it has a capacity. One
-- route takes that up if it leads to after a variable.
unfoldable pub is_open : FlowNet → List Bool → ℕ → ℕ → Bool
is_open net used x k = slice_index_or used (mate net x k) false || (nat_lt 0 (cap_at net (start net x + k)) && not (is_behind (point_of net (head net x k)) && is_used net used x k))

-- no open arc leaves the set of nodes
abbrev pub NoneOpen : FlowNet → List Bool → (ℕ → Bool) → Type 0
NoneOpen net used side = (x k : ℕ) → x < node_count net → k < row_len net x → side x ≡ true → is_open net used x k ≡ true → side (head net x k) ≡ true

-- the nodes to which open arcs lead from the source
pub record IsOpenSide (net : FlowNet) (used : List Bool) (side : ℕ → Bool) : Type 0 where
  pub with_source : side 0 ≡ true
  pub none_open : NoneOpen net used side
  pub within : (other : ℕ → Bool) → other 0 ≡ true → NoneOpen net used other → (v : ℕ) → side v ≡ true → other v ≡ true

-- marks of those nodes
pub record AreOfSource (net : FlowNet) (used marks : List Bool) : Type 0 where
  pub long : length marks ≡ node_count net
  pub side : IsOpenSide net used (λ v. slice_index_or marks v false)
