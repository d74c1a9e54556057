-- The text of a trace, of a circuit that is simulated while it is printed.
use Rattle.std.specs.Prelude.{ℕ, ◌≡◌, Bool, List, [], ◌∷◌, ◌++◌, length}
use Rattle.std.specs.List.{flat_map, range_with_len}
use Rattle.aig_graph.specs.Circuits.{Netlist}
use Rattle.aig_graph.specs.Streams.{property_literals}
use Rattle.lane_sim.specs.declared.stimulus.InputSequence.{InputSequence}
use Rattle.lane_sim.specs.Steps.{AreFor, IsStateFor}
use Rattle.lane_sim.specs.Traces.{value_in}
use Rattle.reports.specs.declared.simulating.Room.{Room}
use Rattle.reports.specs.Traces.{digit}

-- room for simulating the circuit
pub record IsRoomFor (c : Netlist) (room : Room) : Type 0 where
  pub literals : room.literals.items ≡ property_literals c.props
  pub state : IsStateFor c.aig room.state
  pub values : AreFor c.aig room.values

-- the digits of literals with these values, and the line of a step
abbrev pub digits_of : (ℕ → Bool) → List ℕ → List ℕ
digits_of values literals = flat_map (λ lit. digit (values lit) ∷ []) literals

unfoldable pub step_of : (ℕ → Bool) → List ℕ → List ℕ
step_of values literals = 58 ∷ (digits_of values literals ++ 10 ∷ [])

-- the lines of a sequence, and of all
unfoldable pub steps_of : Netlist → InputSequence → List ℕ
steps_of c s = flat_map (λ t. step_of (value_in c.aig s t) (property_literals c.props)) (range_with_len 0 (length s.steps))

unfoldable pub sequence_of : Netlist → InputSequence → List ℕ
sequence_of c s = 61 ∷ 10 ∷ steps_of c s

abbrev pub lines_of : Netlist → List InputSequence → List ℕ
lines_of c sequences = flat_map (sequence_of c) sequences
