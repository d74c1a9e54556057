-- What a check answers.
use Rattle.std.specs.Prelude.{ℕ, ◌≡◌, List, [], length}
use Rattle.aig_graph.specs.Circuits.{Netlist}
use Rattle.aig_graph.specs.Streams.{AreKept, SameShape, SameStreams, chosen}
use Rattle.aig_graph.specs.Value.{Choice}
use Rattle.state_maps.specs.MapCircuits.{IsMapCircuit, is_kept, mapped}
use Rattle.state_maps.specs.States.{Digits, SameReads, State, after_step, opening_state}
use Rattle.map_checks.specs.declared.answer.Answer.{Answer}
use Rattle.map_checks.specs.declared.answer.Answer.TheVariants.{NotShown, Retiming}
use Rattle.map_checks.specs.declared.checking.Opening.{Opening}
use Rattle.map_checks.specs.declared.checking.Opening.TheVariants.{LeftOpen, Kept}
use Rattle.map_checks.specs.declared.errors.CheckError.{CheckError}
use Rattle.map_checks.specs.declared.errors.CheckError.TheVariants.{NoMemory, TooLarge}
use Rattle.gate_sharing.specs.declared.errors.SharingError.{SharingError}
use Rattle.gate_sharing.specs.declared.errors.SharingError.TheVariants.{NoMemory as NoRoom, TooLarge as Full}

abbrev pub check_error : SharingError → CheckError
check_error NoRoom = NoMemory
check_error Full = TooLarge

-- a circuit without latches that has outputs and constraints alone
pub record IsMap (m : Netlist) : Type 0 where
  pub latches : m.aig.latches ≡ []
  pub bad : m.props.bad ≡ []
  pub justice : m.props.justice ≡ []
  pub fairness : m.props.fairness ≡ []

-- An input and a property of d for each of c. The map has an input for each latch of c, and an
-- output for each latch of d.
pub record AreFitting (c d m : Netlist) : Type 0 where
  pub shape : SameShape c d
  pub inputs : m.aig.inputs ≡ length c.aig.latches
  pub outputs : length m.props.outputs ≡ length d.aig.latches

-- from each first state of c the map gives one of d, by places among the free latches of c
pub record MapsFirstStates (c d m : Netlist) (kept : List ℕ) : Type 0 where
  pub places : AreKept c d kept
  pub holds : (f : Choice) → is_kept m (opening_state c.aig f)
  pub states : (f : Choice) → mapped m (opening_state c.aig f) ≡ opening_state d.aig (chosen kept f)

-- what a look at step 0 found is so; an open obligation claims nothing
abbrev pub IsOpeningOf : Netlist → Netlist → Netlist → Opening → Type 0
IsOpeningOf c d m (Kept kept) = MapsFirstStates c d m kept
IsOpeningOf c d m (LeftOpen obligation) = Unit {0}

-- a step of c is one of d, if the constraints hold, which they go on to do
pub record KeepsStates (c d m : Netlist) : Type 0 where
  pub keeps : (x : Digits) (s : State) → is_kept m s → is_kept m (after_step c.aig x s)
  pub steps : (x : Digits) (s : State) → is_kept m s → mapped m (after_step c.aig x s) ≡ after_step d.aig x (mapped m s)
  pub reads : (x : Digits) (s : State) → is_kept m s → SameReads c d x s (mapped m s)

-- the map is one of the states of c to those of d, and so their properties have equal values at
-- each step
abbrev pub IsAnswer : Netlist → Netlist → Netlist → Answer → Type 0
IsAnswer c d m (Retiming kept) = IsMapCircuit c d kept m × SameStreams c d kept
IsAnswer c d m (NotShown obligation) = Unit {0}
