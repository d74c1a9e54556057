-- Literals of shared gates, and gates that say nothing new.
use Rattle.std.specs.Prelude.{ℕ, ◌<◌, ◌≤◌, ◌≡◌, Bool, false, ◌&&◌, List, map}
use Rattle.aig_graph.specs.declared.graph.Gate.{Gate}
use Rattle.aig_graph.specs.Gates.{Gates, IsNegated, Respects, gates_end}
use Rattle.aig_graph.specs.Graph.{variable}
use Rattle.gate_sharing.specs.declared.shared.SharedGate.{SharedGate}

-- what the contracts see of the gates
abbrev pub shared_gates : List SharedGate → List Gate
shared_gates shared = map (λ s. s.gate) shared

-- a literal of the gates, or of a variable before them
abbrev pub IsSharedLiteral : Gates → ℕ → Type 0
IsSharedLiteral k lit = variable lit < gates_end k

-- the literal is 1 if both are
pub record IsBoth (k : Gates) (a b lit : ℕ) : Type 0 where
  pub within : IsSharedLiteral k lit
  pub is : (values : ℕ → Bool) → Respects k values → values lit ≡ (values a && values b)

-- the literal of a gate, whatever gates there are
pub record IsFolded (gate : Gate) (lit : ℕ) : Type 0 where
  pub below : variable lit ≤ variable gate.rhs0
  pub is : (values : ℕ → Bool) → values 0 ≡ false → IsNegated values → values lit ≡ (values gate.rhs0 && values gate.rhs1)
