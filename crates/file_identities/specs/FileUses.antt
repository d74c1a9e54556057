-- The files that a task reads and writes, with the argument that names each, and what it is there
-- for.
use Rattle.std.specs.Prelude.{◌++◌, Bool, List, [], ◌∷◌, Option, Some, None, map, if◌then◌else◌}
use Rattle.std.specs.List.{flat_map}
use Rattle.std.specs.Option.{option_to_list}
use Rattle.counted_io.specs.declared.source.Source.{Source}
use Rattle.counted_io.specs.declared.source.Source.TheVariants as sources
use Rattle.counted_io.specs.declared.target.Target.{Target}
use Rattle.counted_io.specs.declared.target.Target.TheVariants as targets
use Rattle.command_line.specs.StreamUses.{moving_takes_stdout, name_files, takes_stdout}
use Rattle.command_line.specs.declared.task.Asking.{Asking}
use Rattle.command_line.specs.declared.task.Carrying.{Carrying}
use Rattle.command_line.specs.declared.task.Checking.{Checking}
use Rattle.command_line.specs.declared.task.Lifting.{Lifting}
use Rattle.command_line.specs.declared.task.Comparison.{Comparison}
use Rattle.command_line.specs.declared.task.Moving.{Moving}
use Rattle.command_line.specs.declared.task.Retiming.{Retiming}
use Rattle.command_line.specs.declared.task.Shown.{Shown}
use Rattle.command_line.specs.declared.task.Shown.TheVariants.{OnTerminal, EachFrame, Nothing}
use Rattle.command_line.specs.declared.task.Stimuli.{Stimuli}
use Rattle.command_line.specs.declared.task.Stimuli.TheVariants as stimuli
use Rattle.command_line.specs.declared.task.Task.{Task}
use Rattle.command_line.specs.declared.task.Verification.{Verification}
use Rattle.command_line.specs.declared.task.Task.TheVariants.{Retime, Move, Batch, Stat, Convert, Sim, Same, Verify, Check, Miter, Product, Lift, Dot, Witness, Explain}
use Rattle.file_identities.specs.declared.file_use.Argument.{Argument}
use Rattle.file_identities.specs.declared.file_use.Argument.TheVariants.{In, Out, Map, MapOption, Cert, Classes, List as ListFile, First, Second, Kept, Certificates, OutOption, Stim, Vcd, MiterFile, Certificate, ModelFile, CertificateFile, WitnessFile, ResultFile, Witness as WitnessRead, KeepFrom, Progress, Printed}
use Rattle.file_identities.specs.declared.file_use.Role.TheVariants as roles
use Rattle.file_identities.specs.declared.file_use.Place.{Place}
use Rattle.file_identities.specs.declared.file_use.Place.TheVariants as places
use Rattle.file_identities.specs.declared.file_use.FileUse.{FileUse}

abbrev pub place_of_source : Source → Place
place_of_source sources.Stdin = places.Stdin
place_of_source (sources.File path) = places.File path

abbrev pub place_of_target : Target → Place
place_of_target targets.Stdout = places.Stdout
place_of_target (targets.File path) = places.File path

-- a file that is read
abbrev pub reading : Argument → Source → FileUse
reading argument source = record { argument = argument; role = roles.Read; place = place_of_source source }

-- the circuit that what is written is made of, whose place that may take
abbrev pub original : Argument → Source → FileUse
original argument source = record { argument = argument; role = roles.Original; place = place_of_source source }

-- a circuit that is made of another one
abbrev pub remade : Argument → Target → FileUse
remade argument target = record { argument = argument; role = roles.Remade; place = place_of_target target }

-- a file that is written, and takes the place of nothing
abbrev pub writing : Argument → Target → FileUse
writing argument target = record { argument = argument; role = roles.Written; place = place_of_target target }

-- so, if it is asked for
abbrev pub writing_if_asked : Argument → Option Target → Option FileUse
writing_if_asked argument None = None
writing_if_asked argument (Some target) = Some (writing argument target)

-- so, if it is asked for, of a file that is read
abbrev pub reading_if_asked : Argument → Option Source → Option FileUse
reading_if_asked argument None = None
reading_if_asked argument (Some source) = Some (reading argument source)

-- lines that are printed
abbrev pub lines_at : Argument → Place → FileUse
lines_at argument place = record { argument = argument; role = roles.Lines; place = place }

-- what is printed on standard output
abbrev pub printed_use : FileUse
printed_use = lines_at Printed places.Stdout

-- the lines of a run: on standard error, if standard output is given a file
abbrev pub printed_beside : Bool → FileUse
printed_beside is_aside = lines_at Printed (if is_aside then places.Stderr else places.Stdout)

-- the lines of `--progress`, on standard error
abbrev pub progress_of : Shown → Option FileUse
progress_of EachFrame = Some (lines_at Progress places.Stderr)
progress_of OnTerminal = None
progress_of Nothing = None

-- the line on standard output that two circuits can't be compared, in place of what is written
abbrev pub shapes_use : FileUse
shapes_use = record { argument = Printed; role = roles.LineInstead; place = places.Stdout }

-- a stimulus, if one is read
abbrev pub stimulus_of : Stimuli → Option FileUse
stimulus_of (stimuli.Read source) = Some (reading Stim source)
stimulus_of (stimuli.Random sequences) = None

-- a file of names of latches that are held
abbrev pub name_file : Source → FileUse
name_file source = reading KeepFrom source

-- those that there are
abbrev pub given : List (Option FileUse) → List FileUse
given files = flat_map option_to_list files

-- the circuit, the map and the certificates of a retiming, and its lines
abbrev pub written_by_retiming : Retiming → List FileUse
written_by_retiming retiming =
    given (Some (remade Out retiming.output) ∷ writing_if_asked MapOption retiming.map ∷ writing_if_asked Cert retiming.certificates
    ∷ Some (printed_beside (takes_stdout retiming)) ∷ progress_of retiming.shown ∷ [])

-- the circuit and the map of a move, and its lines
abbrev pub written_by_moving : Moving → List FileUse
written_by_moving moving =
    given (Some (remade Out moving.output) ∷ writing_if_asked MapOption moving.map ∷ Some (printed_beside (moving_takes_stdout moving)) ∷ progress_of moving.shown ∷ [])

abbrev pub read_by_asking : Asking → List FileUse
read_by_asking asking = given (Some (reading In asking.input) ∷ Some (reading Out asking.retimed) ∷ Some (original Map asking.map) ∷ [])

-- the files that `lift` reads
abbrev pub read_by_lifting : Lifting → List FileUse
read_by_lifting lifting =
    given (Some (reading In lifting.input) ∷ Some (reading Out lifting.retimed) ∷ Some (reading Map lifting.map) ∷ Some (original WitnessFile lifting.witness) ∷ [])

-- the files that `same` reads
abbrev pub read_by_comparison : Comparison → List FileUse
read_by_comparison comparison =
    given (Some (reading First comparison.first) ∷ Some (reading Second comparison.second) ∷ stimulus_of comparison.stimuli ∷ reading_if_asked Kept comparison.kept ∷ [])

-- the files that `verify` reads
abbrev pub read_by_verification : Verification → List FileUse
read_by_verification verification =
    given (Some (reading In verification.input) ∷ Some (reading Certificates verification.certificates) ∷ reading_if_asked OutOption verification.retimed ∷ [])

-- the circuits, and the map or the list of kept free latches if there is one
abbrev pub read_by_checking : Checking → List FileUse
read_by_checking checking = given (Some (reading In checking.input) ∷ Some (reading Out checking.retimed) ∷ reading_if_asked Map checking.map ∷ reading_if_asked Kept checking.kept ∷ [])

abbrev pub read_by_carrying : Carrying → List FileUse
read_by_carrying carrying = given (Some (reading In carrying.input) ∷ Some (reading Out carrying.retimed) ∷ Some (reading WitnessRead carrying.witness) ∷ [])

-- What a task writes. The files of a batch's list are known once that is read. The page of a fault
-- is printed by a task that reads nothing.
abbrev pub written_by : Task → List FileUse
written_by (Retime retiming) = written_by_retiming retiming
written_by (Move moving) = written_by_moving moving
written_by (Convert input output spelling) = given (Some (remade Out output) ∷ [])
written_by (Sim simulation) = given (Some printed_use ∷ writing_if_asked Vcd simulation.waves ∷ [])
written_by (Miter asking) = given (Some (remade MiterFile asking.output) ∷ writing_if_asked Certificate asking.certificate ∷ Some shapes_use ∷ [])
written_by (Product asking) = given (Some (remade ModelFile asking.output) ∷ writing_if_asked CertificateFile asking.certificate ∷ Some shapes_use ∷ [])
written_by (Lift lifting) = given (Some (remade ResultFile lifting.output) ∷ Some shapes_use ∷ [])
written_by (Dot drawing) = given (Some (writing Out drawing.output) ∷ [])
written_by (Batch batch) = given (Some printed_use ∷ [])
written_by (Stat counting) = given (Some printed_use ∷ [])
written_by (Same comparison) = given (Some printed_use ∷ [])
written_by (Verify verification) = given (Some printed_use ∷ [])
written_by (Check checking) = given (Some printed_use ∷ [])
written_by (Witness carrying) = given (Some printed_use ∷ [])
written_by (Explain name) = []

-- what a task reads beside files of names
abbrev pub others_read_by : Task → List FileUse
others_read_by (Retime retiming) = given (Some (original In retiming.input) ∷ reading_if_asked Classes retiming.classes ∷ [])
others_read_by (Move moving) = given (Some (original In moving.input) ∷ [])
others_read_by (Convert input output spelling) = given (Some (original In input) ∷ [])
others_read_by (Sim simulation) = given (Some (reading In simulation.input) ∷ stimulus_of simulation.stimuli ∷ [])
others_read_by (Miter asking) = read_by_asking asking
others_read_by (Product asking) = read_by_asking asking
others_read_by (Lift lifting) = read_by_lifting lifting
others_read_by (Dot drawing) = given (Some (reading In drawing.input) ∷ [])
others_read_by (Batch batch) = given (Some (reading ListFile batch.list) ∷ [])
others_read_by (Stat counting) = given (Some (reading In counting.input) ∷ [])
others_read_by (Same comparison) = read_by_comparison comparison
others_read_by (Verify verification) = read_by_verification verification
others_read_by (Check checking) = read_by_checking checking
others_read_by (Witness carrying) = read_by_carrying carrying
others_read_by (Explain name) = []

-- what it reads, and after it the files of names of the latches that it holds
abbrev pub files_read_by : Task → List FileUse
files_read_by task = others_read_by task ++ map name_file (name_files task)
