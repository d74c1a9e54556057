-- A step of each circuit in the graph of both.
use Rattle.std.specs.Prelude.{ℕ, ◌+◌, ◌*◌, ◌≡◌, ◌++◌, Bool, true, false, List, [], ◌∷◌, length}
use Rattle.aig_graph.specs.Tables.{table}
use Rattle.aig_graph.specs.Building.{without_gates}
use Rattle.aig_graph.specs.Circuits.{Netlist}
use Rattle.aig_graph.specs.Graph.{Graph, first_gate, first_latch}
use Rattle.map_miters.specs.Holding.{Held, HoldAs, IsStep}
use Rattle.map_miters.specs.declared.begun.Leaves.{Leaves}
use Rattle.map_miters.specs.declared.sides.Sides.{Sides}
use Rattle.map_miters.specs.Products.{product_resets, second_state}

-- the graph without gates
abbrev pub IsBegun : Graph → Graph → Bool → Graph → Type 0
IsBegun c d tied g = g ≡ without_gates c.inputs (product_resets c d tied)

-- the literals of the inputs, and of the latches of either circuit
pub record AreListed (c d : Graph) (leaves : Leaves) : Type 0 where
  pub inputs : leaves.inputs.items ≡ table 0 c.inputs (λ i. 2 * (1 + i))
  pub first : leaves.first.items ≡ table 0 (length c.latches) (λ j. 2 * (first_latch c + j))
  pub second : leaves.second.items ≡ table 0 (length d.latches) (λ j. 2 * (first_gate c + j))

-- what the inputs and the latches of either hold
abbrev pub beside_digits : Held
beside_digits = λ z u. z

-- what the latches of the first circuit hold: the state as it is
abbrev pub beside_first : Held
beside_first = λ z u. u

-- what the latches of the second circuit hold: the state from the latches of the first on
abbrev pub beside_second : Graph → Held
beside_second c = λ z u. second_state c u

-- a step of each circuit, and the literals of what their latches hold
pub record AreSides (h : Graph) (c d : Netlist) (sides : Sides) : Type 0 where
  pub first_long : length sides.leaves.first.items ≡ length c.aig.latches
  pub second_long : length sides.leaves.second.items ≡ length d.aig.latches
  pub of_first : HoldAs h sides.leaves.first.items beside_first
  pub of_second : HoldAs h sides.leaves.second.items (beside_second c.aig)
  pub first : IsStep h c beside_digits beside_first sides.first
  pub second : IsStep h d beside_digits (beside_second c.aig) sides.second

-- the next literals of all latches
abbrev pub start_nexts : Bool → List ℕ
start_nexts true = 1 ∷ []
start_nexts false = []

-- the next literals of these latches
abbrev pub product_nexts : Sides → Bool → List ℕ
product_nexts sides tied = sides.first.nexts.items ++ sides.second.nexts.items ++ start_nexts tied
