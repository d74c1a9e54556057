-- Graphs that grow, and what the literals of new gates say.
use Rattle.std.specs.Prelude.{ℕ, ◌≡◌, ◌&&◌, List, []}
use Rattle.aig_graph.specs.declared.graph.Gate.{Gate}
use Rattle.aig_graph.specs.Graph.{Graph, IsGraph, IsLiteralOf}
use Rattle.aig_graph.specs.Value.{value_within}
use Rattle.state_maps.specs.States.{Digits, State}
use Rattle.state_maps.specs.RetimedStates.{agrees}

-- h has the literals of g, with their values, and perhaps more gates
pub record Extends (g h : Graph) : Type 0 where
  pub graph : IsGraph h
  pub inputs : h.inputs ≡ g.inputs
  pub latches : h.latches ≡ g.latches
  pub literals : (lit : ℕ) → IsLiteralOf g lit → IsLiteralOf h lit
  pub values : (x : Digits) (s : State) (lit : ℕ) → IsLiteralOf g lit → value_within h x s lit ≡ value_within g x s lit

-- the literal says that both are 1
pub record IsConjunction (g : Graph) (a b lit : ℕ) : Type 0 where
  pub within : IsLiteralOf g lit
  pub is : (x : Digits) (s : State) → value_within g x s lit ≡ (value_within g x s a && value_within g x s b)

-- the literal says that both are equal
pub record IsEquality (g : Graph) (a b lit : ℕ) : Type 0 where
  pub within : IsLiteralOf g lit
  pub is : (x : Digits) (s : State) → value_within g x s lit ≡ agrees (value_within g x s a) (value_within g x s b)

-- gates over inputs alone
abbrev pub gates_over : ℕ → List Gate → Graph
gates_over inputs gates = record { inputs = inputs; latches = []; gates = gates }
