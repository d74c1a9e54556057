-- Gates alone, the values of literals that respect them, and what all such values have in common.
use Rattle.std.specs.Prelude.{ℕ, ◌+◌, ◌*◌, ◌<◌, ◌≤◌, ◌≡◌, Bool, true, false, not, ◌&&◌, List, length, slice_get, Some, All}
use Rattle.aig_graph.specs.declared.literal.TheConstants.{MAX_VARIABLES}
use Rattle.aig_graph.specs.declared.graph.Gate.{Gate}
use Rattle.aig_graph.specs.Graph.{Graph, IsGateAt, first_gate, variable}

-- gates that are numbered from a first variable on
pub record Gates : Type 0 where
  pub first : ℕ
  pub gates : List Gate

-- one more than the greatest variable
abbrev pub gates_end : Gates → ℕ
gates_end k = k.first + length k.gates

-- each gate reads what is before it
pub record AreGates (k : Gates) : Type 0 where
  pub small : gates_end k ≤ MAX_VARIABLES
  pub gates : (j : ℕ) (gate : Gate) → slice_get k.gates j ≡ Some gate → IsGateAt (k.first + j) gate

-- those of a graph
abbrev pub gates_of : Graph → Gates
gates_of g = record { first = first_gate g; gates = g.gates }

-- these gates, and perhaps more
pub record Grows (k l : Gates) : Type 0 where
  pub first : l.first ≡ k.first
  pub long : length k.gates ≤ length l.gates
  pub gates : (j : ℕ) (gate : Gate) → slice_get k.gates j ≡ Some gate → slice_get l.gates j ≡ Some gate

-- a literal has the other value if it is negated
abbrev pub IsNegated : (ℕ → Bool) → Type 0
IsNegated values = (v : ℕ) → values (2 * v + 1) ≡ not (values (2 * v))

-- values of literals, of which each gate has that of its fan-ins; any values of the variables
-- before the gates
pub record Respects (k : Gates) (values : ℕ → Bool) : Type 0 where
  pub constant : values 0 ≡ false
  pub negation : IsNegated values
  pub gates : (j : ℕ) (gate : Gate) → slice_get k.gates j ≡ Some gate → values (2 * (k.first + j)) ≡ (values gate.rhs0 && values gate.rhs1)

-- these literals are all 1
abbrev pub AreOne : (ℕ → Bool) → List ℕ → Type 0
AreOne values lits = All (λ lit. values lit ≡ true) lits

-- these literals can't all be 1
abbrev pub Refutes : Gates → List ℕ → Type 0
Refutes k lits = (values : ℕ → Bool) → Respects k values → AreOne values lits → ⊥

-- a literal is 0 wherever these are all 1
abbrev pub IsZeroWhere : Gates → List ℕ → ℕ → Type 0
IsZeroWhere k lits lit = (values : ℕ → Bool) → Respects k values → AreOne values lits → values lit ≡ false

-- two literals have one value, whatever the values are
abbrev pub AreEqualIn : Gates → ℕ → ℕ → Type 0
AreEqualIn k a b = (values : ℕ → Bool) → Respects k values → values a ≡ values b
