-- The trace of a circuit under a stimulus.
use Rattle.std.specs.Prelude.{ℕ, Bool, false, List, [], Option, Some, None, slice_get, length, map}
use Rattle.std.specs.List.{slice_index_or, range_with_len}
use Rattle.aig_graph.specs.Graph.{Graph}
use Rattle.aig_graph.specs.Circuits.{Netlist}
use Rattle.aig_graph.specs.Streams.{property_literals}
use Rattle.aig_graph.specs.Value.{Inputs, Choice, value}
use Rattle.lane_sim.specs.declared.stimulus.InputSequence.{InputSequence}

-- the digits of a sequence by step and input, and by free latch; one that is not written is false
abbrev pub inputs_of : InputSequence → Inputs
inputs_of s = λ t i. slice_index_or (slice_index_or s.steps t []) i false

abbrev pub choice_of : InputSequence → Choice
choice_of s = λ j. slice_index_or s.choice j false

-- the value of a literal at a step of a sequence
abbrev pub value_in : Graph → InputSequence → ℕ → ℕ → Bool
value_in g s t lit = value g (inputs_of s) (choice_of s) t lit

-- the values of the property literals at a step of a sequence
abbrev pub row_of : Netlist → InputSequence → ℕ → List Bool
row_of c s t = map (value_in c.aig s t) (property_literals c.props)

-- for each sequence, for each of its steps, the values of the property literals
unfoldable pub trace : Netlist → List InputSequence → List (List (List Bool))
trace c sequences = map (λ s. map (row_of c s) (range_with_len 0 (length s.steps))) sequences

abbrev pub then_at : {X : Type 0} → Option (List X) → ℕ → Option X
then_at None k = None
then_at (Some xs) k = slice_get xs k

-- the value at a place of a step of a sequence, if there is one
abbrev pub at_place : List (List (List Bool)) → ℕ → ℕ → ℕ → Option Bool
at_place t sequence step place = then_at (then_at (slice_get t sequence) step) place
