-- What `lift` makes of a witness circuit, and what is written.
use Rattle.std.specs.Prelude.{ℕ, ◌≡◌, Bool, true, false, List, unwrap_or}
use Rattle.aig_graph.specs.Circuits.{Netlist}
use Rattle.aig_graph.specs.Graph.{free_latches}
use Rattle.aig_graph.specs.Streams.{SameShape}
use Rattle.state_maps.specs.MapCircuits.{IsMapCircuit}
use Rattle.witness_circuits.specs.declared.sharing.Sharing.{Sharing}
use Rattle.witness_circuits.specs.Witnesses.{IsSharing, IsWitness}
use Rattle.witness_circuits.specs.Naming.{IsSharedBy}
use Rattle.witness_circuits.specs.LiftedLaws.{first_shared}
use Rattle.witness_circuits.specs.Lifting.{IsLifted}
use Rattle.map_miters.specs.Lifting.{IsLiftedBack}
use Rattle.map_checks.specs.Answers.{AreFitting, IsMap}
use Rattle.file_words.specs.declared.fault.ReadError.TheVariants.{TooLarge}
use Rattle.counted_io.specs.Input.{Input}
use Rattle.counted_io.specs.Output.{Output}
use Rattle.counted_io.specs.Streams.{source_name, target_name}
use Rattle.command_line.specs.declared.task.Lifting.{Lifting}
use Rattle.circuit_files.specs.declared.outcome.Outcome.{Outcome}
use Rattle.circuit_files.specs.declared.outcome.Failure.{Failure}
use Rattle.circuit_files.specs.declared.outcome.Failure.TheVariants as fails
use Rattle.command_endings.specs.Sources.{IsCircuitAt}
use Rattle.map_commands.specs.declared.given.Given.{Given}
use Rattle.map_commands.specs.declared.made.Made.{Made}
use Rattle.map_commands.specs.declared.made.Made.TheVariants.{Circuit, ShapesDiffer}
use Rattle.map_commands.specs.Fitting.{IsMisfit}
use Rattle.map_commands.specs.Making.{EndsMaking}
use Rattle.map_commands.specs.Reading.{AreReadWithMap}

-- r is the witness circuit for c that is made of w, which shares this with d. If m maps the states
-- of c to those of d and w passes the five checks for d, r passes them for c.
pub record IsLiftedBy (c d m w : Netlist) (k : Sharing) (r : Netlist) : Type 0 where
  pub lifted : IsLifted c m w k r
  pub shows : (kept : List ℕ) → IsMapCircuit c d kept m → IsWitness d w k → IsSharing c r (first_shared c r) × IsWitness c r (first_shared c r)

-- it is so by what w's names say
pub record IsLiftOf (c d m w r : Netlist) : Type 0 where
  pub sharing : Sharing
  pub shared : IsSharedBy d w sharing
  pub lifted : IsLiftedBy c d m w sharing r

-- r is the witness circuit for c that is made of w, if m maps the states of d to those of c. If w
-- passes the five checks for d, r passes them for c.
pub record IsLiftedBackBy (c d m w : Netlist) (k : Sharing) (r : Netlist) : Type 0 where
  pub lifted : IsLiftedBack c d m w k r
  pub shows : (kept : List ℕ) → IsMapCircuit d c kept m → IsWitness d w k → IsSharing c r (first_shared c r) × IsWitness c r (first_shared c r)

-- it is so by what w's names say
pub record IsBackLiftOf (c d m w r : Netlist) : Type 0 where
  pub sharing : Sharing
  pub shared : IsSharedBy d w sharing
  pub lifted : IsLiftedBackBy c d m w sharing r

-- Circuits and a map fit together. The map leads from the first to the second, or back to a first
-- one that has no free latch.
abbrev pub AreLiftable : Bool → Netlist → Netlist → Netlist → Type 0
AreLiftable false c d m = AreFitting c d m
AreLiftable true c d m = AreFitting d c m × (free_latches c.aig ≡ 0)

-- c and d have one shape; back, c has no free latch
abbrev pub HaveLiftableShapes : Bool → Netlist → Netlist → Type 0
HaveLiftableShapes false c d = SameShape c d
HaveLiftableShapes true c d = SameShape d c × (free_latches c.aig ≡ 0)

-- the map that is read hasn't the latches of both circuits, which have one shape
abbrev pub IsMisfitToLift : Bool → Given → Type 0
IsMisfitToLift false given = IsMisfit given.mapped.pair.first.circuit given.mapped.pair.second.circuit given.mapped.map.circuit
IsMisfitToLift true given = IsMisfit given.mapped.pair.second.circuit given.mapped.pair.first.circuit given.mapped.map.circuit

-- r is what is lifted forth, or with true back
abbrev pub IsLiftBy : Bool → Netlist → Netlist → Netlist → Netlist → Netlist → Type 0
IsLiftBy false c d m w r = IsLiftOf c d m w r
IsLiftBy true c d m w r = IsBackLiftOf c d m w r

-- what is made of the circuits, the map and the witness circuit that are read
abbrev pub IsLiftedOf : Bool → Given → Made → Type 0
IsLiftedOf back given (Circuit r) = IsMap given.mapped.map.circuit × AreLiftable back given.mapped.pair.first.circuit given.mapped.pair.second.circuit given.mapped.map.circuit
    × IsLiftBy back given.mapped.pair.first.circuit given.mapped.pair.second.circuit given.mapped.map.circuit given.witness.circuit r
IsLiftedOf back given ShapesDiffer = IsMap given.mapped.map.circuit × (HaveLiftableShapes back given.mapped.pair.first.circuit given.mapped.pair.second.circuit → ⊥)

-- Why nothing is made of them. The map isn't one of theirs, or no inputs and latches of OUT are
-- those that the names say. Else what would be made has too many variables, or memory runs out.
abbrev pub IsFailureToLift : Bool → Lifting → Given → Failure → Type 0
IsFailureToLift back task given (fails.NotAMap path) = (path.now ≡ source_name task.map) × (IsMap given.mapped.map.circuit → IsMisfitToLift back given)
IsFailureToLift back task given (fails.NoSuchLiteral path) = (path.now ≡ source_name task.witness) × ((k : Sharing) → IsSharedBy given.mapped.pair.second.circuit given.witness.circuit k → ⊥)
IsFailureToLift back task given (fails.Refused path fault) = (path.now ≡ target_name task.output) × (fault ≡ TooLarge 0)
IsFailureToLift back task given fails.Memory = Unit {0}
IsFailureToLift back task given failure = ⊥

-- both circuits and the map are read, and then the witness circuit
pub record AreGiven (task : Lifting) (before after : Input) (given : Given) : Type 0 where
  pub between : Input
  pub mapped : AreReadWithMap task.input task.retimed task.map before between given.mapped
  pub witness : IsCircuitAt task.witness between after given.witness

-- what is made of the files read is written, in the chosen spelling, else in the witness circuit's
pub record PrintsLift (FileGiven : List ℕ → List ℕ → Type 0) (task : Lifting) (before after : Input) (old new : Output) (ended : Outcome) : Type 0 where
  pub given : Given
  pub read : AreGiven task before after given
  pub lifted : Made
  pub is : IsLiftedOf task.back given lifted
  pub printed : EndsMaking FileGiven lifted (unwrap_or task.spelling given.witness.spelling) task.output old new ended
