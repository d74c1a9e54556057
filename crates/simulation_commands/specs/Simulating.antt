-- What `sim` prints.
use Rattle.std.specs.Prelude.{ℕ, ◌≡◌, ◌++◌, List, Option, Some, None}
use Rattle.aig_graph.specs.Circuits.{Netlist}
use Rattle.aig_binary.specs.declared.reading.SpeltCircuit.{SpeltCircuit}
use Rattle.lane_sim.specs.Traces.{trace}
use Rattle.reports.specs.Simulating.{IsRoomFor}
use Rattle.reports.specs.Traces.{trace_text}
use Rattle.counted_io.specs.Input.{Input}
use Rattle.counted_io.specs.Output.{Output}
use Rattle.counted_io.specs.declared.target.Target.{Target}
use Rattle.counted_io.specs.declared.target.Target.TheVariants as targets
use Rattle.command_line.specs.declared.task.Simulation.{Simulation}
use Rattle.command_line.specs.declared.task.Stimuli.{Stimuli}
use Rattle.circuit_files.specs.declared.outcome.Outcome.{Outcome}
use Rattle.circuit_files.specs.declared.outcome.Outcome.TheVariants.{Done}
use Rattle.command_endings.specs.Printing.{EndsWith}
use Rattle.command_endings.specs.Sources.{IsCircuitAt}
use Rattle.simulation_commands.specs.Dumping.{dump_of}
use Rattle.simulation_commands.specs.Stimulating.{AreStimuliAt}
use Rattle.simulation_commands.specs.declared.simulation.Case.{Case}
use Rattle.simulation_commands.specs.declared.simulation.Lines.{Lines}
use Rattle.simulation_commands.specs.declared.simulation.Lines.TheVariants.{Whole, Stepped}

-- this circuit, and what it is simulated under by what is asked for
pub record IsCaseWith (c : Netlist) (stimuli : Stimuli) (before after : Input) (given : Case) : Type 0 where
  pub circuit : given.circuit ≡ c
  pub under : AreStimuliAt stimuli c before after given.stimulus

-- the circuit that is read, and what the task has it simulated under
pub record IsCaseOf (task : Simulation) (before after : Input) (given : Case) : Type 0 where
  pub spelt : SpeltCircuit
  pub between : Input
  pub read : IsCircuitAt task.input before between spelt
  pub is : IsCaseWith spelt.circuit task.stimuli between after given

-- the lines of its trace
abbrev pub case_text : Case → List ℕ
case_text given = trace_text (trace given.circuit given.stimulus)

-- its trace, or room for simulating it
abbrev pub AreLinesFor : Case → Lines → Type 0
AreLinesFor given (Whole found) = found ≡ trace given.circuit given.stimulus
AreLinesFor given (Stepped room) = IsRoomFor given.circuit room

-- what is printed: the lines of the trace, and before them the dump of waves if that goes to
-- standard output
abbrev pub printed : Option Target → List ℕ → List ℕ → List ℕ
printed None dump lines = lines
printed (Some targets.Stdout) dump lines = dump ++ lines
printed (Some (targets.File path)) dump lines = lines

-- the file that a dump goes to was given it, by what it means that a file was given a text
abbrev pub IsDumped : (List ℕ → List ℕ → Type 0) → Option Target → List ℕ → Type 0
IsDumped FileGiven None dump = Unit {0}
IsDumped FileGiven (Some targets.Stdout) dump = Unit {0}
IsDumped FileGiven (Some (targets.File path)) dump = FileGiven path.now dump

-- of what is read, the waves were written if they are asked for, and that was printed
pub record PrintsTrace (FileGiven : List ℕ → List ℕ → Type 0) (task : Simulation) (before after : Input) (old new : Output) (ended : Outcome) : Type 0 where
  pub given : Case
  pub is : IsCaseOf task before after given
  pub dumped : IsDumped FileGiven task.waves (dump_of given)
  pub prints : EndsWith Done (printed task.waves (dump_of given) (case_text given)) old new ended
