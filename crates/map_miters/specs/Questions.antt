-- The questions of a map of states: each is answered by a literal that is 1 if it fails.
use Rattle.std.specs.Prelude.{ℕ, ◌<◌, ◌≡◌, [], length, map, slice_get, Some}
use Rattle.aig_graph.specs.declared.graph.Latch.{Latch}
use Rattle.aig_graph.specs.Circuits.{Netlist}
use Rattle.aig_graph.specs.Graph.{Graph}
use Rattle.aig_graph.specs.Streams.{SameShape, property_literals}
use Rattle.aig_graph.specs.Value.{opening, value_within}
use Rattle.state_maps.specs.States.{Digits, State, after_step}
use Rattle.state_maps.specs.MapCircuits.{FreeStay, is_kept, mapped}
use Rattle.map_miters.specs.Comparing.{FailsBut}
use Rattle.map_miters.specs.Holding.{Held, reset_state}
use Rattle.map_miters.specs.declared.questions.Compared.{Compared}
use Rattle.map_miters.specs.declared.questions.Failures.{Failures}

-- circuits of one shape, and one without latches that has an input for each latch of c and an
-- output for each of d
pub record IsAskable (c d m : Netlist) : Type 0 where
  pub shape : SameShape c d
  pub inputs : m.aig.inputs ≡ length c.aig.latches
  pub latches : m.aig.latches ≡ []
  pub outputs : length m.props.outputs ≡ length d.aig.latches

-- in the state each latch whose reset is known holds that
abbrev pub IsFirst : Graph → State → Type 0
IsFirst d t = (j : ℕ) (latch : Latch) → slice_get d.latches j ≡ Some latch → opening latch.reset (t j) ≡ t j

-- reset: from a first state of c, whatever its free latches hold, the map gives a first state of d
pub record Begins (c d m : Netlist) (s : State) : Type 0 where
  pub free : FreeStay c d m
  pub kept : is_kept m (reset_state c.aig s)
  pub first : IsFirst d.aig (mapped m (reset_state c.aig s))

-- keep: if the map's constraints are 1, they are a step later
abbrev pub Keeps : Netlist → Netlist → Digits → State → Type 0
Keeps c m x s = is_kept m s → is_kept m (after_step c.aig x s)

-- next: if they are, what the map gives a step later is what d's latches hold after its step
abbrev pub Steps : Netlist → Netlist → Netlist → Digits → State → Type 0
Steps c d m x s = is_kept m s → (j : ℕ) → j < length d.aig.latches → mapped m (after_step c.aig x s) j ≡ after_step d.aig x (mapped m s) j

-- read: if they are, the properties of d have the values of c's
abbrev pub Reads : Netlist → Netlist → Netlist → Digits → State → Type 0
Reads c d m x s = is_kept m s
    → map (value_within d.aig x (mapped m s)) (property_literals d.props) ≡ map (value_within c.aig x s) (property_literals c.props)

-- three of them, for these digits and this state
pub record AreStepFailures (h : Graph) (c d m : Netlist) (state : Held) (f : Compared) : Type 0 where
  pub keep : FailsBut h f.keep (λ z u. Keeps c m z (state z u))
  pub next : FailsBut h f.next (λ z u. Steps c d m z (state z u))
  pub read : FailsBut h f.read (λ z u. Reads c d m z (state z u))

-- the four
pub record AreFailures (h : Graph) (c d m : Netlist) (state : Held) (f : Failures) : Type 0 where
  pub reset : FailsBut h f.reset (λ z u. Begins c d m (state z u))
  pub keep : FailsBut h f.keep (λ z u. Keeps c m z (state z u))
  pub next : FailsBut h f.next (λ z u. Steps c d m z (state z u))
  pub read : FailsBut h f.read (λ z u. Reads c d m z (state z u))
