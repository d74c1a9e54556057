-- The state of a moved circuit.
use Rattle.std.specs.Prelude.{ℕ, ◌*◌, Bool, false, slice_get, Option, Some, None}
use Rattle.aig_graph.specs.Counting.{places}
use Rattle.aig_graph.specs.Graph.{Graph, variables_end}
use Rattle.aig_graph.specs.Value.{value_within}
use Rattle.aig_graph.specs.Move.{Move}
use Rattle.rebuild.specs.Moved.{is_latched}
use Rattle.state_maps.specs.States.{State}

-- what the variable is in a state, if it depends on latches alone
abbrev pub held_value : Graph → State → Option ℕ → Bool
held_value g s None = false
held_value g s (Some v) = value_within g (λ i. false) s (2 * v)

-- a latch that stays holds what it held, and a new one the value of its gate
abbrev pub moved_state : Move → State → State
moved_state m s = λ j. held_value m.circuit.aig s (slice_get (places (is_latched m) (variables_end m.circuit.aig)) j)
