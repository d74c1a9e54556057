-- What a table of a closed set's members rests on.
use Rattle.std.specs.Prelude.{ℕ, ◌≡◌, ◌&&◌, ◌||◌, Bool, true, List, Some, is_some}
use Rattle.aig_graph.specs.declared.graph.Gate.{Gate}
use Rattle.aig_graph.specs.Graph.{Graph, gate_at, latch_at, variable}
use Rattle.aig_graph.specs.Closed.{is_settled}
use Rattle.aig_graph.specs.Marking.{has}

-- whether the variable is a passable gate
abbrev pub is_passable : Graph → List ℕ → ℕ → Bool
is_passable g held v = is_some (gate_at g v) && is_settled g held v

-- each variable of the list is a passable gate
abbrev pub ArePassable : Graph → List ℕ → List ℕ → Type 0
ArePassable g held s = (v : ℕ) → has s v ≡ true → is_passable g held v ≡ true

-- whether the variable is a latch or in the list
abbrev pub is_latch_or_in : Graph → List ℕ → ℕ → Bool
is_latch_or_in g s v = is_some (latch_at g v) || has s v

-- each fan-in of the list's gates is a latch or in the list
abbrev pub AreFanInsIn : Graph → List ℕ → Type 0
AreFanInsIn g s =
    (v : ℕ) (gate : Gate) → has s v ≡ true → gate_at g v ≡ Some gate
    → (is_latch_or_in g s (variable gate.rhs0) && is_latch_or_in g s (variable gate.rhs1)) ≡ true
