-- What comparing two circuits finds, and what is printed of it.
use Rattle.std.specs.Prelude.{ℕ, ◌≡◌, Bool, true, false, List, Some, None}
use Rattle.aig_graph.specs.Circuits.{Netlist}
use Rattle.lane_sim.specs.Traces.{trace}
use Rattle.lane_sim.specs.Differences.{IsFirstDifference}
use Rattle.lane_sim.specs.declared.stimulus.InputSequence.{InputSequence}
use Rattle.reports.specs.Differences.{difference_text, shapes_text}
use Rattle.serde_json.specs.Data.{Data}
use Rattle.json_reports.specs.Differences.{difference_data, shapes_data}
use Rattle.json_reports.specs.Lines.{json_line}
use Rattle.counted_io.specs.Input.{Input}
use Rattle.counted_io.specs.Output.{Output}
use Rattle.command_line.specs.declared.task.Comparison.{Comparison}
use Rattle.command_line.specs.declared.task.Stimuli.{Stimuli}
use Rattle.circuit_files.specs.declared.outcome.Outcome.{Outcome}
use Rattle.circuit_files.specs.declared.outcome.Outcome.TheVariants as ends
use Rattle.command_endings.specs.Printing.{EndsWith}
use Rattle.simulation_commands.specs.Keeping.{AreSharedAt, HaveShape, sequences_for}
use Rattle.simulation_commands.specs.Reading.{ArePair}
use Rattle.simulation_commands.specs.Stimulating.{AreStimuliAt}
use Rattle.simulation_commands.specs.declared.kept.Shared.{Shared}
use Rattle.simulation_commands.specs.declared.reading.Pair.{Pair}
use Rattle.simulation_commands.specs.declared.comparison.Finding.{Finding}
use Rattle.simulation_commands.specs.declared.comparison.Finding.TheVariants.{Same, Differ, ShapesDiffer}

-- what is found of two circuits, the second of which has these free latches of the first, under a
-- stimulus of the first
abbrev pub IsFinding : Shared → Netlist → Netlist → List InputSequence → Finding → Type 0
IsFinding shared c d stimulus Same = HaveShape shared c d × (trace c stimulus ≡ trace d (sequences_for shared stimulus))
IsFinding shared c d stimulus (Differ place) = HaveShape shared c d × IsFirstDifference (trace c stimulus) (trace d (sequences_for shared stimulus)) place
IsFinding shared c d stimulus ShapesDiffer = HaveShape shared c d → ⊥

-- what is printed of it, in a line or for other programs, and how the run ends
abbrev pub finding_text : Finding → List ℕ
finding_text Same = difference_text None
finding_text (Differ place) = difference_text (Some place)
finding_text ShapesDiffer = shapes_text

abbrev pub finding_object : Finding → Data
finding_object Same = difference_data None
finding_object (Differ place) = difference_data (Some place)
finding_object ShapesDiffer = shapes_data

abbrev pub outcome_of_finding : Finding → Outcome
outcome_of_finding Same = ends.Done
outcome_of_finding (Differ place) = ends.Differ
outcome_of_finding ShapesDiffer = ends.ShapesDiffer

-- an object on a line if that is asked for, else the line
abbrev pub printed_finding : Bool → Finding → List ℕ
printed_finding true finding = json_line (finding_object finding)
printed_finding false finding = finding_text finding

-- what is found of them under what is asked for, with the widths of the first
pub record IsFindingBy (shared : Shared) (c d : Netlist) (stimuli : Stimuli) (before after : Input) (finding : Finding) : Type 0 where
  pub sequences : List InputSequence
  pub under : AreStimuliAt stimuli c before after sequences
  pub is : IsFinding shared c d sequences finding

-- such a finding by the free latches of the task's list, which is read first
pub record IsFindingUnder (c d : Netlist) (task : Comparison) (before after : Input) (finding : Finding) : Type 0 where
  pub shared : Shared
  pub between : Input
  pub are : AreSharedAt task.kept c d before between shared
  pub found : IsFindingBy shared c d task.stimuli between after finding

-- what is found of the circuits of the task, which are read in their order, under what it asks for
pub record IsFindingOf (task : Comparison) (before after : Input) (finding : Finding) : Type 0 where
  pub pair : Pair
  pub between : Input
  pub read : ArePair task.first task.second before between pair
  pub found : IsFindingUnder pair.first.circuit pair.second.circuit task between after finding

-- that was printed as the task asks, and the run ends by it
pub record PrintsFinding (task : Comparison) (before after : Input) (old new : Output) (ended : Outcome) : Type 0 where
  pub finding : Finding
  pub found : IsFindingOf task before after finding
  pub printed : EndsWith (outcome_of_finding finding) (printed_finding task.json finding) old new ended
