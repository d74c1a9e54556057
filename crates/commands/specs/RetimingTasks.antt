-- What the task of a retiming makes of its options, of an error, and of a retiming.
use Rattle.std.specs.Prelude.{ℕ, ◌≡◌, Bool, true, false, List, Option, Some, None, Result, is_some, option_map, map, length, nat_lt, slice_get, unwrap_or, if◌then◌else◌}
use Rattle.std.specs.Borrow.{Bor}
use Rattle.aig_graph.specs.Circuits.{Netlist}
use Rattle.counted_io.specs.Streams.{target_name}
use Rattle.counted_io.specs.declared.source.Source.{Source}
use Rattle.counted_io.specs.declared.target.Target.{Target}
use Rattle.command_line.specs.declared.options.RetimingOptions.{RetimingOptions}
use Rattle.command_line.specs.declared.task.Retiming.{Retiming}
use Rattle.mapped_answers.specs.declared.errors.AnswerError.{AnswerError}
use Rattle.mapped_answers.specs.declared.errors.AnswerError.TheVariants.{Bytes, MapTooLarge}
use Rattle.frame_runs.specs.declared.errors.BytesError.{BytesError}
use Rattle.frame_runs.specs.declared.errors.BytesError.TheVariants.{Read, Retime, Write}
use Rattle.frame_runs.specs.declared.errors.RetimeError.{RetimeError}
use Rattle.frame_runs.specs.declared.errors.RetimeError.TheVariants.{Misread, NoMemory, NoSuchLatch, NoSuchName, NotShown}
use Rattle.counted_io.specs.Output.{Output}
use Rattle.merging_rounds.specs.declared.rounds.Rounds.{Rounds}
use Rattle.path_levels.specs.Levels.{levels}
use Rattle.reports.specs.RemainingCounts.{remaining}
use Rattle.reports.specs.declared.remaining_counts.Remaining.{Remaining}
use Rattle.reports.specs.Retimings.{retiming_text}
use Rattle.json_reports.specs.Retimings.{retiming_data}
use Rattle.json_reports.specs.declared.times.Times.{Times}
use Rattle.json_reports.specs.declared.counts.MapCounts.{MapCounts}
use Rattle.json_reports.specs.declared.counts.ReadLevels.{ReadLevels}
use Rattle.circuit_files.specs.Outcomes.{IsAbout, failure_of_reading, outcome_of}
use Rattle.circuit_files.specs.declared.outcome.Outcome.{Outcome}
use Rattle.circuit_files.specs.declared.outcome.Outcome.TheVariants.{Device, Done, Refused}
use Rattle.circuit_files.specs.declared.outcome.Failure.{Failure}
use Rattle.circuit_files.specs.declared.outcome.Failure.TheVariants as fails
use Rattle.command_endings.specs.Objects.{EndsPrintingObject}
use Rattle.command_endings.specs.HeldNames.{OfSource}
use Rattle.command_endings.specs.RunOptions.{AreOptionsOf}
use Rattle.command_endings.specs.Printing.{EndsPrinting}
use Rattle.frame_runs.specs.Bounds.{bound_for}
use Rattle.frame_runs.specs.declared.options.Options.{Options}
use Rattle.commands.specs.declared.answer.Answer.{Answer}

-- the options of a run are the task's, which makes certificates if they are asked for
abbrev pub AreOptionsFor : Retiming → Options → Type 0
AreOptionsFor task options = AreOptionsOf task.options task.options.frames (is_some task.certificates) options

-- what the merged latches are read of, if they are given, else the circuit
abbrev pub classes_source : Retiming → Source
classes_source task = unwrap_or task.classes task.input

-- The failure that an error of a run is, of a circuit in which the options hold latches. One of
-- them is that of no latch, or there is no memory, or latches aren't merged as the classes say.
abbrev pub IsFailureOfRun : Source → Source → RetimingOptions → RetimeError → Failure → Type 0
IsFailureOfRun source classes options NoMemory failure = failure ≡ fails.Memory
IsFailureOfRun source classes options (NoSuchName number) failure = (name : Bor (List ℕ)) → slice_get options.keep.items number ≡ Some name → OfSource source (λ path. failure ≡ fails.NoSuchName path name)
IsFailureOfRun source classes options (NoSuchLatch number) failure = (position : ℕ) → slice_get options.keep_latches.items number ≡ Some position → OfSource source (λ path. failure ≡ fails.NoSuchLatch path position)
IsFailureOfRun source classes options (Misread latch) failure = OfSource classes (λ path. failure ≡ fails.Misread path latch)
IsFailureOfRun source classes options (NotShown latch) failure = OfSource classes (λ path. failure ≡ fails.NotShown path latch)

-- the failure that an error is: of what is read, of the run, or of what is written
abbrev pub IsFailureOf : Retiming → BytesError → Failure → Type 0
IsFailureOf task (Read error) failure = OfSource task.input (λ path. failure ≡ failure_of_reading error path)
IsFailureOf task (Retime error) failure = IsFailureOfRun task.input (classes_source task) task.options error failure
IsFailureOf task (Write error) failure = (name : Bor (List ℕ)) × (name.now ≡ target_name task.output) × (failure ≡ fails.Device name)

-- the failure that an error of a run with a map is; a map that is too large is refused
abbrev pub IsMapFailureOf : Retiming → AnswerError → Failure → Type 0
IsMapFailureOf task (Bytes error) failure = IsFailureOf task error failure
IsMapFailureOf task MapTooLarge failure = (outcome_of failure ≡ Refused) × ((map : Target) → task.map ≡ Some map → IsAbout (target_name map) failure)

-- a device has failed, that of this target
abbrev pub HasFailed : Option Target → Failure → Type 0
HasFailed None failure = ⊥
HasFailed (Some target) failure = (outcome_of failure ≡ Device) × IsAbout (target_name target) failure

-- What the task's retiming leaves under a bound, or without one. It is the circuit, with its held
-- latches at these positions. Fewer frames than the limit end if no set leaves fewer.
abbrev pub remaining_of : Retiming → Option ℕ → Rounds → List ℕ → Remaining
remaining_of task bound r held = remaining r.circuit held bound (nat_lt (length r.frames) task.options.frames)

-- the levels of the circuit that is read, which an object tells, and the bound that its run has
abbrev pub levels_reported : Retiming → Netlist → ReadLevels
levels_reported task c = record { counted = if task.json then Some (levels c) else None; bound = bound_for task.options.bound c }

-- how many gates and constraints a map has
abbrev pub counts_of : Netlist → MapCounts
counts_of m = record { gates = length m.aig.gates; constraints = length m.props.constraints }

-- how printing an answer ends, as an object of JSON if that is asked for, else in lines
abbrev pub EndsPrintingFrames : Bool → Retiming → Answer → Option Times → Output → Output → Result Outcome Failure → Type 0
EndsPrintingFrames true task a times old new result = EndsPrintingObject Done (retiming_data a.rounds a.levels (remaining_of task a.levels.bound a.rounds a.keep) times (option_map counts_of a.map)) old new result
EndsPrintingFrames false task a times old new result = EndsPrinting Done (retiming_text a.rounds) old new result

-- it was printed so, and nobody asks how that ended
pub record SaysFrames (task : Retiming) (a : Answer) (times : Option Times) (old new : Output) : Type 0 where
  pub ended : Result Outcome Failure
  pub prints : EndsPrintingFrames task.json task a times old new ended
