-- How often a task uses each standard stream.
use Rattle.std.specs.Prelude.{◌≤◌, ◌||◌, ◌++◌, Bool, false, List, [], ◌∷◌, Option, Some, None}
use Rattle.std.specs.List.{count_by}
use Rattle.counted_io.specs.Streams.{is_stdin, is_stdout}
use Rattle.counted_io.specs.declared.source.Source.{Source}
use Rattle.counted_io.specs.declared.target.Target.{Target}
use Rattle.counted_io.specs.declared.target.Target.TheVariants as targets
use Rattle.command_line.specs.declared.task.Asking.{Asking}
use Rattle.command_line.specs.declared.task.Checking.{Checking}
use Rattle.command_line.specs.declared.task.Comparison.{Comparison}
use Rattle.command_line.specs.declared.task.Lifting.{Lifting}
use Rattle.command_line.specs.declared.task.Moving.{Moving}
use Rattle.command_line.specs.declared.task.Retiming.{Retiming}
use Rattle.command_line.specs.declared.task.Simulation.{Simulation}
use Rattle.command_line.specs.declared.task.Stimuli.{Stimuli}
use Rattle.command_line.specs.declared.task.Stimuli.TheVariants.{Read, Random}
use Rattle.command_line.specs.declared.task.Task.{Task}
use Rattle.command_line.specs.declared.task.Verification.{Verification}
use Rattle.command_line.specs.declared.task.Task.TheVariants.{Retime, Move, Batch, Stat, Convert, Sim, Same, Verify, Check, Miter, Product, Lift, Dot, Witness, Explain}

-- what follows what else is read: a stimulus, unless it is made of random sequences
abbrev pub with_stimulus : Stimuli → List Source
with_stimulus (Read source) = source ∷ []
with_stimulus (Random sequences) = []

abbrev pub sources_of_simulation : Simulation → List Source
sources_of_simulation simulation = simulation.input ∷ with_stimulus simulation.stimuli

-- a source more, if there is one
abbrev pub with_source : Option Source → List Source → List Source
with_source None sources = sources
with_source (Some source) sources = source ∷ sources

abbrev pub sources_of_comparison : Comparison → List Source
sources_of_comparison comparison = comparison.first ∷ comparison.second ∷ with_source comparison.kept (with_stimulus comparison.stimuli)

abbrev pub sources_of_checking : Checking → List Source
sources_of_checking checking = checking.input ∷ checking.retimed ∷ with_source checking.map (with_source checking.kept [])

abbrev pub sources_of_verification : Verification → List Source
sources_of_verification verification = verification.input ∷ verification.certificates ∷ with_source verification.retimed []

-- the circuit of a retiming, and the merged latches that are given
abbrev pub sources_of_retiming : Retiming → List Source
sources_of_retiming retiming = retiming.input ∷ with_source retiming.classes []

abbrev pub sources_of_asking : Asking → List Source
sources_of_asking asking = asking.input ∷ asking.retimed ∷ asking.map ∷ []

abbrev pub sources_of_lifting : Lifting → List Source
sources_of_lifting lifting = lifting.input ∷ lifting.retimed ∷ lifting.map ∷ lifting.witness ∷ []

-- the files of names of the latches that a task holds
abbrev pub name_files : Task → List Source
name_files (Retime retiming) = retiming.options.keep_from.items
name_files (Move moving) = moving.options.keep_from.items
name_files (Verify verification) = verification.options.keep_from.items
name_files (Dot drawing) = drawing.options.keep_from.items
name_files _ = []

-- what a task reads beside them
abbrev pub other_sources : Task → List Source
other_sources (Retime retiming) = sources_of_retiming retiming
other_sources (Move moving) = moving.input ∷ []
other_sources (Batch batch) = batch.list ∷ []
other_sources (Stat counting) = counting.input ∷ []
other_sources (Convert input output spelling) = input ∷ []
other_sources (Sim simulation) = sources_of_simulation simulation
other_sources (Same comparison) = sources_of_comparison comparison
other_sources (Verify verification) = sources_of_verification verification
other_sources (Check checking) = sources_of_checking checking
other_sources (Miter asking) = sources_of_asking asking
other_sources (Product asking) = sources_of_asking asking
other_sources (Lift lifting) = sources_of_lifting lifting
other_sources (Dot drawing) = drawing.input ∷ []
other_sources (Witness carrying) = carrying.input ∷ carrying.retimed ∷ carrying.witness ∷ []
other_sources (Explain name) = []

-- what a task reads
abbrev pub sources_of : Task → List Source
sources_of task = name_files task ++ other_sources task

-- a target more, if there is one
abbrev pub with_target : Option Target → List Target → List Target
with_target None targets = targets
with_target (Some target) targets = target ∷ targets

-- the circuit, the map and the certificates that a retiming writes
abbrev pub retiming_targets : Target → Option Target → Option Target → List Target
retiming_targets output map certificates = output ∷ with_target map (with_target certificates [])

-- the circuit and the map that a move writes
abbrev pub moving_targets : Moving → List Target
moving_targets moving = moving.output ∷ with_target moving.map []

-- what a simulation writes: the trace, which is printed, and the waves
abbrev pub simulation_targets : Option Target → List Target
simulation_targets waves = targets.Stdout ∷ with_target waves []

-- the miter and the certificate that are written
abbrev pub asking_targets : Asking → List Target
asking_targets asking = asking.output ∷ with_target asking.certificate []

-- what a task writes, but for the lines that it prints beside that
abbrev pub targets_of : Task → List Target
targets_of (Retime retiming) = retiming_targets retiming.output retiming.map retiming.certificates
targets_of (Move moving) = moving_targets moving
targets_of (Batch batch) = []
targets_of (Stat counting) = []
targets_of (Convert input output spelling) = output ∷ []
targets_of (Sim simulation) = simulation_targets simulation.waves
targets_of (Same comparison) = []
targets_of (Verify verification) = []
targets_of (Check checking) = []
targets_of (Miter asking) = asking_targets asking
targets_of (Product asking) = asking_targets asking
targets_of (Lift lifting) = lifting.output ∷ []
targets_of (Dot drawing) = drawing.output ∷ []
targets_of (Witness carrying) = []
targets_of (Explain name) = []

-- standard input is read once at most, and standard output written once, printed lines aside
pub record UsesStreamsOnce (task : Task) : Type 0 where
  pub stdin : count_by is_stdin (sources_of task) ≤ 1
  pub stdout : count_by is_stdout (targets_of task) ≤ 1

-- whether something that may be asked for is written to standard output
abbrev pub writes_stdout : Option Target → Bool
writes_stdout (Some target) = is_stdout target
writes_stdout None = false

-- whether a circuit, a map or certificates go to standard output
abbrev pub takes_stdout : Retiming → Bool
takes_stdout task = is_stdout task.output || writes_stdout task.certificates || writes_stdout task.map

-- so for a move of latches
abbrev pub moving_takes_stdout : Moving → Bool
moving_takes_stdout task = is_stdout task.output || writes_stdout task.map
