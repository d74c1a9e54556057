-- Passable gates, and closed sets of them, with some latches held.
use Rattle.std.specs.Prelude.{ℕ, ◌-◌, ◌≡◌, ◌⊎◌, Bool, not, ◌&&◌, List, Some, is_some, IsTrue, Contains}
use Rattle.std.specs.List.Sorted.{IsStrictlyIncreasing}
use Rattle.aig_graph.specs.Marking.{has}
use Rattle.aig_graph.specs.declared.graph.Gate.{Gate}
use Rattle.aig_graph.specs.declared.graph.Latch.{Latch}
use Rattle.aig_graph.specs.Graph.{Graph, variable, first_latch, latch_at, gate_at, is_known}
use Rattle.aig_graph.specs.Folding.{fold_gates}

-- whether the variable is a latch at one of the held positions, from 0
abbrev pub is_held : Graph → List ℕ → ℕ → Bool
is_held g held v = has held (v - first_latch g) && is_some (latch_at g v)

-- whether the variable is a known latch that isn't held
abbrev pub may_move : Graph → List ℕ → ℕ → Bool
may_move g held v = not (is_held g held v) && is_known (latch_at g v)

abbrev pub both : Gate → Bool → Bool → Bool
both gate a b = a && b

-- whether a variable is a known latch that isn't held, or a gate that rests on such latches alone
unfoldable pub is_settled : Graph → List ℕ → ℕ → Bool
is_settled g held v = fold_gates g (may_move g held) both v

-- a gate whose fan-ins are known latches that aren't held, or passable gates
abbrev pub IsPassable : Graph → List ℕ → ℕ → Type 0
IsPassable g held v = (gate : Gate) × (gate_at g v ≡ Some gate) × IsTrue (is_settled g held v)

-- a latch, or in s
abbrev pub IsLatchOrIn : Graph → List ℕ → ℕ → Type 0
IsLatchOrIn g s v = ((latch : Latch) × (latch_at g v ≡ Some latch)) ⊎ Contains s v

-- each variable of s is a passable gate whose fan-ins' variables are latches or in s
pub record IsClosed (g : Graph) (held s : List ℕ) : Type 0 where
  pub passable : (v : ℕ) → Contains s v → IsPassable g held v
  pub fan_ins : (v : ℕ) (gate : Gate) → Contains s v → gate_at g v ≡ Some gate → IsLatchOrIn g s (variable gate.rhs0) × IsLatchOrIn g s (variable gate.rhs1)

-- a closed set, as the rising list of its variables
pub record IsClosedSet (g : Graph) (held s : List ℕ) : Type 0 where
  pub rising : IsStrictlyIncreasing s
  pub closed : IsClosed g held s

-- a known latch that isn't held, or in s
abbrev pub MayMoveOrIn : Graph → List ℕ → List ℕ → ℕ → Type 0
MayMoveOrIn g held s v = IsTrue (may_move g held v) ⊎ Contains s v

-- a gate whose fan-ins' variables are known latches that aren't held, or in s
unfoldable pub RestsOn : Graph → List ℕ → List ℕ → ℕ → Type 0
RestsOn g held s v = (gate : Gate) × (gate_at g v ≡ Some gate) × MayMoveOrIn g held s (variable gate.rhs0) × MayMoveOrIn g held s (variable gate.rhs1)
