-- Two circuits side by side, over the same inputs. Their latches stand in one list, first those of
-- the one and then those of the other. Each reads as a literal: as a constant, or as a latch.
use Rattle.std.specs.Prelude.{ℕ, ◌-◌, ◌<◌, ◌≡◌, nat_lt, Bool, false, List, length, map, if◌then◌else◌}
use Rattle.std.specs.List.{slice_index_or}
use Rattle.aig_graph.specs.Graph.{Graph, first_latch, variable}
use Rattle.aig_graph.specs.Circuits.{Netlist}
use Rattle.aig_graph.specs.Streams.{chosen, property_literals}
use Rattle.aig_graph.specs.Value.{Choice, signed, value_within}
use Rattle.state_maps.specs.States.{Digits, State, after_step, opening_state}

-- what a latch of the list holds, in a state of each circuit
abbrev pub held : Graph → State → State → ℕ → Bool
held c s r j = if nat_lt j (length c.latches) then s j else r (j - length c.latches)

-- the value of what a latch reads as: latch j of the list has the literals of variable first_latch
-- c + j. No latch reads as an input.
abbrev pub read_value : Graph → State → State → ℕ → Bool
read_value c s r lit = signed lit (if nat_lt (variable lit) (first_latch c) then false else held c s r (variable lit - first_latch c))

-- each latch holds what it reads as
abbrev pub AgreesWith : Graph → List ℕ → State → State → Type 0
AgreesWith c reads s r = (j : ℕ) → j < length reads → held c s r j ≡ read_value c s r (slice_index_or reads j 0)

-- the latches hold what they read as in all first states, and after a step from all states in which
-- they do
pub record IsInductive (c d : Graph) (kept reads : List ℕ) : Type 0 where
  pub starts : (f : Choice) → AgreesWith c reads (opening_state c f) (opening_state d (chosen kept f))
  pub steps : (x : Digits) (s r : State) → AgreesWith c reads s r → AgreesWith c reads (after_step c x s) (after_step d x r)

-- a literal of d has the value of one of c in all states in which the latches hold what they read
-- as
abbrev pub AreEqualUnder : Graph → Graph → List ℕ → ℕ → ℕ → Type 0
AreEqualUnder c d reads a b = (x : Digits) (s r : State) → AgreesWith c reads s r → value_within d x r b ≡ value_within c x s a

-- so have all properties
abbrev pub ReadAlike : Netlist → Netlist → List ℕ → Type 0
ReadAlike c d reads = (x : Digits) (s r : State) → AgreesWith c.aig reads s r
    → map (value_within d.aig x r) (property_literals d.props) ≡ map (value_within c.aig x s) (property_literals c.props)
