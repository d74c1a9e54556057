-- What a command line asks for, by the texts of its arguments.
use Rattle.std.specs.Prelude.{ℕ, ◌≡◌, ◌<◌, ◌^◌, Bool, true, false, List, [], ◌∷◌, Option, Some, None, codes, length, map, nat_lt, ◌&&◌, option_map, unwrap_or, if◌then◌else◌}
use Rattle.std.specs.Borrow.{Bor}
use Rattle.std.specs.Char.{digit_value}
use Rattle.std.specs.Str.Parse.{IsNumeral, digits_value, without_leading_plus}
use Rattle.clap.specs.Words.{first_value, found_of, matched_of, one_text, raw_values}
use Rattle.clap.specs.declared.parser.matches.ArgMatches.{ArgMatches}
use Rattle.file_words.specs.declared.spelling.Spelling.{Spelling}
use Rattle.file_words.specs.declared.spelling.Spelling.TheVariants.{Ascii, Binary}
use Rattle.counted_io.specs.Streams.{source_of, target_of}
use Rattle.counted_io.specs.declared.source.Source.{Source}
use Rattle.counted_io.specs.declared.target.Target.{Target}
use Rattle.aig_graph.specs.declared.choice.Choice.{Choice}
use Rattle.aig_graph.specs.declared.choice.Choice.TheVariants.{Greatest, Smallest}
use Rattle.frame_runs.specs.declared.bound.PathBound.{PathBound}
use Rattle.frame_runs.specs.declared.bound.PathBound.TheVariants as bounds
use Rattle.command_line.specs.declared.options.RetimingOptions.{RetimingOptions}
use Rattle.command_line.specs.declared.task.Shown.{Shown}
use Rattle.command_line.specs.declared.task.Shown.TheVariants.{OnTerminal, EachFrame, Nothing}
use Rattle.command_line.specs.declared.task.Retiming.{Retiming}
use Rattle.command_line.specs.declared.task.MoveKind.{MoveKind}
use Rattle.command_line.specs.declared.task.MoveKind.TheVariants.{Backward, Enables}
use Rattle.command_line.specs.declared.task.Moving.{Moving}
use Rattle.command_line.specs.declared.task.Batch.{Batch as Batching}
use Rattle.command_line.specs.declared.task.Verification.{Verification}
use Rattle.command_line.specs.declared.task.Sequences.{Sequences}
use Rattle.command_line.specs.declared.task.Stimuli.{Stimuli}
use Rattle.command_line.specs.declared.task.Stimuli.TheVariants.{Read, Random}
use Rattle.command_line.specs.declared.task.Simulation.{Simulation}
use Rattle.command_line.specs.declared.task.Comparison.{Comparison}
use Rattle.command_line.specs.declared.task.Drawing.{Drawing}
use Rattle.command_line.specs.declared.task.Counting.{Counting}
use Rattle.command_line.specs.declared.task.Carrying.{Carrying}
use Rattle.command_line.specs.declared.task.Checking.{Checking}
use Rattle.command_line.specs.declared.task.Asking.{Asking}
use Rattle.command_line.specs.declared.task.Lifting.{Lifting}
use Rattle.command_line.specs.declared.task.Task.{Task}
use Rattle.command_line.specs.declared.task.Task.TheVariants.{Retime, Move, Batch, Stat, Convert, Sim, Same, Verify, Check, Miter, Product, Lift, Dot, Witness, Explain}

-- the text is the first value of the argument with this id
abbrev pub IsGiven : ArgMatches → List ℕ → Bor (List ℕ) → Type 0
IsGiven matches id text = first_value (found_of matches) id ≡ Some text.now

-- what is read is what the first value of the argument with this id stands for
pub record IsSource (matches : ArgMatches) (id : List ℕ) (source : Source) : Type 0 where
  pub path : Bor (List ℕ)
  pub given : IsGiven matches id path
  pub stands_for : source ≡ source_of path

-- so if the argument has a value, and none if it has none
abbrev pub IsSomeSource : ArgMatches → List ℕ → Option Source → Type 0
IsSomeSource matches id (Some source) = IsSource matches id source
IsSomeSource matches id None = first_value (found_of matches) id ≡ None

-- what is written is what the first value of the argument with this id stands for
pub record IsTarget (matches : ArgMatches) (id : List ℕ) (target : Target) : Type 0 where
  pub path : Bor (List ℕ)
  pub given : IsGiven matches id path
  pub stands_for : target ≡ target_of path

-- so if the argument has a value, and none if it has none
abbrev pub IsSomeTarget : ArgMatches → List ℕ → Option Target → Type 0
IsSomeTarget matches id (Some target) = IsTarget matches id target
IsSomeTarget matches id None = first_value (found_of matches) id ≡ None

-- whether the flag with this id is given: its value is the text of a truth value
pub record IsFlag (matches : ArgMatches) (id : List ℕ) (given : Bool) : Type 0 where
  pub none : one_text (found_of matches) id ≡ None → given ≡ false
  pub yes : one_text (found_of matches) id ≡ Some (codes "true") → given ≡ true
  pub no : one_text (found_of matches) id ≡ Some (codes "false") → given ≡ false

-- the spelling of the flag that is given
abbrev pub IsSpelling : ArgMatches → Option Spelling → Type 0
IsSpelling matches (Some Ascii) = IsFlag matches (codes "ascii") true
IsSpelling matches (Some Binary) = IsFlag matches (codes "ascii") false × IsFlag matches (codes "binary") true
IsSpelling matches None = IsFlag matches (codes "ascii") false × IsFlag matches (codes "binary") false

-- the smallest least set if and only if its flag is given
abbrev pub IsChoice : ArgMatches → Choice → Type 0
IsChoice matches Greatest = IsFlag matches (codes "near") false
IsChoice matches Smallest = IsFlag matches (codes "near") true

-- a line for each frame, or nothing, if its flag is given, else what a terminal is shown
abbrev pub IsShown : ArgMatches → Shown → Type 0
IsShown matches EachFrame = IsFlag matches (codes "progress") true
IsShown matches Nothing = IsFlag matches (codes "progress") false × IsFlag matches (codes "quiet") true
IsShown matches OnTerminal = IsFlag matches (codes "progress") false × IsFlag matches (codes "quiet") false

-- The number is the value of the argument with this id, if that is a numeral of 32 bits. It is the
-- default if there is none.
pub record IsNumber (matches : ArgMatches) (id : List ℕ) (default number : ℕ) : Type 0 where
  pub none : one_text (found_of matches) id ≡ None → number ≡ default
  pub value : (text : List ℕ) → one_text (found_of matches) id ≡ Some text → IsNumeral 10 (without_leading_plus text) → digits_value 10 (without_leading_plus text) < 2 ^ 32
      → number ≡ digits_value 10 (without_leading_plus text)

-- the bound on levels: that of the circuit if its flag is given, else the number if one is given,
-- else none
abbrev pub IsBound : ArgMatches → PathBound → Type 0
IsBound matches bounds.NoLonger = IsFlag matches (codes "no-longer") true
IsBound matches (bounds.Levels most) =
    IsFlag matches (codes "no-longer") false × ((text : Bor (List ℕ)) × IsGiven matches (codes "levels") text) × IsNumber matches (codes "levels") 0 most
IsBound matches bounds.None = IsFlag matches (codes "no-longer") false × (first_value (found_of matches) (codes "levels") ≡ None)

-- whether each byte is a decimal digit
abbrev pub are_digits : List ℕ → Bool
are_digits [] = true
are_digits (c ∷ cs) = nat_lt (digit_value c) 10 && are_digits cs

-- whether a text is a numeral of 32 bits
abbrev pub is_numeral : List ℕ → Bool
is_numeral digits = (nat_lt 0 (length digits) && are_digits digits) && nat_lt (digits_value 10 digits) (2 ^ 32)

-- the number that it is then, else 0
unfoldable pub number_of : List ℕ → ℕ
number_of text = if is_numeral (without_leading_plus text) then digits_value 10 (without_leading_plus text) else 0

-- all values of the argument with this id
abbrev pub values_of : ArgMatches → List ℕ → List (List ℕ)
values_of matches id = unwrap_or (option_map raw_values (matched_of (found_of matches) id)) []

-- what is read is what each value of the argument with this id stands for, in their order
pub record AreSources (matches : ArgMatches) (id : List ℕ) (sources : List Source) : Type 0 where
  pub paths : List (Bor (List ℕ))
  pub given : map (λ path. path.now) paths ≡ values_of matches id
  pub stand_for : sources ≡ map source_of paths

-- The options of a retiming are the values of their own arguments. One that isn't given, or that a
-- command doesn't have, is its default.
pub record AreOptions (matches : ArgMatches) (options : RetimingOptions) : Type 0 where
  pub spelling : IsSpelling matches options.spelling
  pub frames : IsNumber matches (codes "frames") (2 ^ 28) options.frames
  pub choice : IsChoice matches options.choice
  pub bound : IsBound matches options.bound
  pub merge : IsFlag matches (codes "merge") options.merge
  pub names : map (λ name. name.now) options.keep.items ≡ values_of matches (codes "keep")
  pub name_files : AreSources matches (codes "keep-from") options.keep_from.items
  pub places : options.keep_latches.items ≡ map number_of (values_of matches (codes "keep-latch"))

-- the paths and the options of a retiming are the values of their own arguments
pub record IsRetiming (matches : ArgMatches) (retiming : Retiming) : Type 0 where
  pub input : IsSource matches (codes "IN") retiming.input
  pub output : IsTarget matches (codes "OUT") retiming.output
  pub options : AreOptions matches retiming.options
  pub workers : IsNumber matches (codes "workers") 1 retiming.workers
  pub classes : IsSomeSource matches (codes "classes") retiming.classes
  pub certificates : IsSomeTarget matches (codes "cert") retiming.certificates
  pub mapping : IsSomeTarget matches (codes "map") retiming.map
  pub shown : IsShown matches retiming.shown
  pub json : IsFlag matches (codes "json") retiming.json

-- the paths and the options of a move are the values of their own arguments
pub record IsMoving (matches : ArgMatches) (moving : Moving) : Type 0 where
  pub input : IsSource matches (codes "IN") moving.input
  pub output : IsTarget matches (codes "OUT") moving.output
  pub options : AreOptions matches moving.options
  pub mapping : IsSomeTarget matches (codes "map") moving.map
  pub enables : IsFlag matches (codes "enables") moving.enables
  pub shown : IsShown matches moving.shown
  pub json : IsFlag matches (codes "json") moving.json

-- the list and the options of a batch are the values of their own arguments
pub record IsBatch (matches : ArgMatches) (batch : Batching) : Type 0 where
  pub list : IsSource matches (codes "LIST") batch.list
  pub options : AreOptions matches batch.options
  pub workers : IsNumber matches (codes "workers") 1 batch.workers
  pub json : IsFlag matches (codes "json") batch.json

-- the paths and the options of a verification are the values of their own arguments
pub record IsVerification (matches : ArgMatches) (verification : Verification) : Type 0 where
  pub input : IsSource matches (codes "IN") verification.input
  pub certificates : IsSource matches (codes "CERT") verification.certificates
  pub retimed : IsSomeSource matches (codes "out") verification.retimed
  pub options : AreOptions matches verification.options
  pub json : IsFlag matches (codes "json") verification.json

-- the numbers of random sequences are the values of their own arguments
pub record AreSequences (matches : ArgMatches) (sequences : Sequences) : Type 0 where
  pub given : (text : Bor (List ℕ)) × IsGiven matches (codes "random") text
  pub count : IsNumber matches (codes "random") 1 sequences.count
  pub steps : IsNumber matches (codes "steps") 100 sequences.steps
  pub seed : IsNumber matches (codes "seed") 0 sequences.seed

-- the stimulus is read if no number of random sequences is given
abbrev pub AreStimuli : ArgMatches → Stimuli → Type 0
AreStimuli matches (Read source) = (first_value (found_of matches) (codes "random") ≡ None) × IsSource matches (codes "STIM") source
AreStimuli matches (Random sequences) = AreSequences matches sequences

-- the path of a simulation and what it is under are the values of their own arguments
pub record IsSimulation (matches : ArgMatches) (simulation : Simulation) : Type 0 where
  pub input : IsSource matches (codes "IN") simulation.input
  pub stimuli : AreStimuli matches simulation.stimuli
  pub waves : IsSomeTarget matches (codes "vcd") simulation.waves

-- the paths and the flag of a comparison are the values of their own arguments
pub record IsComparison (matches : ArgMatches) (comparison : Comparison) : Type 0 where
  pub first : IsSource matches (codes "A") comparison.first
  pub second : IsSource matches (codes "B") comparison.second
  pub kept : IsSomeSource matches (codes "kept") comparison.kept
  pub stimuli : AreStimuli matches comparison.stimuli
  pub json : IsFlag matches (codes "json") comparison.json

-- the paths and the options of a drawing are the values of their own arguments
pub record IsDrawing (matches : ArgMatches) (drawing : Drawing) : Type 0 where
  pub input : IsSource matches (codes "IN") drawing.input
  pub output : IsTarget matches (codes "OUT") drawing.output
  pub frame : IsFlag matches (codes "frame") drawing.frame
  pub options : AreOptions matches drawing.options
  pub around : option_map (λ name. name.now) drawing.around ≡ first_value (found_of matches) (codes "around")
  pub depth : IsNumber matches (codes "depth") 2 drawing.depth

-- the path and the flags of a count are the values of their own arguments
pub record IsCounting (matches : ArgMatches) (counting : Counting) : Type 0 where
  pub input : IsSource matches (codes "IN") counting.input
  pub merge : IsFlag matches (codes "merge") counting.merge
  pub json : IsFlag matches (codes "json") counting.json

-- the paths and the flag of a witness that is carried back are the values of their own arguments
pub record IsCarrying (matches : ArgMatches) (carrying : Carrying) : Type 0 where
  pub input : IsSource matches (codes "IN") carrying.input
  pub retimed : IsSource matches (codes "OUT") carrying.retimed
  pub witness : IsSource matches (codes "WITNESS") carrying.witness
  pub merge : IsFlag matches (codes "merge") carrying.merge

-- the paths of the circuits are the values of their own arguments. So is that of the map, or of the
-- list of kept free latches, if there is one.
pub record IsChecking (matches : ArgMatches) (checking : Checking) : Type 0 where
  pub input : IsSource matches (codes "IN") checking.input
  pub retimed : IsSource matches (codes "OUT") checking.retimed
  pub mapping : IsSomeSource matches (codes "MAP") checking.map
  pub kept : IsSomeSource matches (codes "kept") checking.kept

-- two circuits and the map of the states of the one to those of the other
pub record AreMapped (matches : ArgMatches) (sources : Source × Source × Source) : Type 0 where
  pub input : IsSource matches (codes "IN") sources.0
  pub retimed : IsSource matches (codes "OUT") sources.1
  pub mapping : IsSource matches (codes "MAP") sources.2

-- The paths of the circuits, of the map and of its miter are the values of their own arguments. So
-- are the flags of what is written.
pub record IsAsking (matches : ArgMatches) (asking : Asking) : Type 0 where
  pub input : IsSource matches (codes "IN") asking.input
  pub retimed : IsSource matches (codes "OUT") asking.retimed
  pub mapping : IsSource matches (codes "MAP") asking.map
  pub output : IsTarget matches (codes "MITER") asking.output
  pub certificate : IsSomeTarget matches (codes "certificate") asking.certificate
  pub spelling : IsSpelling matches asking.spelling

-- so for both circuits side by side, and for the certificate, which is always given
pub record IsPairing (matches : ArgMatches) (asking : Asking) : Type 0 where
  pub input : IsSource matches (codes "IN") asking.input
  pub retimed : IsSource matches (codes "OUT") asking.retimed
  pub mapping : IsSource matches (codes "MAP") asking.map
  pub output : IsTarget matches (codes "MODEL") asking.output
  pub certificate : IsSomeTarget matches (codes "CERT") asking.certificate
  pub spelling : IsSpelling matches asking.spelling

-- The paths of the files that a witness circuit is lifted by are the values of their own arguments.
-- So are the flags of what is written.
pub record IsLifting (matches : ArgMatches) (lifting : Lifting) : Type 0 where
  pub input : IsSource matches (codes "IN") lifting.input
  pub retimed : IsSource matches (codes "OUT") lifting.retimed
  pub mapping : IsSource matches (codes "MAP") lifting.map
  pub witness : IsSource matches (codes "CERT") lifting.witness
  pub output : IsTarget matches (codes "RESULT") lifting.output
  pub spelling : IsSpelling matches lifting.spelling
  pub back : IsFlag matches (codes "back") lifting.back

-- Each path of the task, and the name of a fault, is the value of its own argument. So no file is
-- written that was to be read.
abbrev pub AsksFor : ArgMatches → Task → Type 0
AsksFor matches (Retime retiming) = IsRetiming matches retiming
AsksFor matches (Move moving) = IsMoving matches moving
AsksFor matches (Batch batch) = IsBatch matches batch
AsksFor matches (Stat counting) = IsCounting matches counting
AsksFor matches (Convert input output spelling) = IsSource matches (codes "IN") input × IsTarget matches (codes "OUT") output × IsSpelling matches spelling
AsksFor matches (Sim simulation) = IsSimulation matches simulation
AsksFor matches (Same comparison) = IsComparison matches comparison
AsksFor matches (Verify verification) = IsVerification matches verification
AsksFor matches (Check checking) = IsChecking matches checking
AsksFor matches (Miter asking) = IsAsking matches asking
AsksFor matches (Product asking) = IsPairing matches asking
AsksFor matches (Lift lifting) = IsLifting matches lifting
AsksFor matches (Dot drawing) = IsDrawing matches drawing
AsksFor matches (Witness carrying) = IsCarrying matches carrying
AsksFor matches (Explain name) = IsGiven matches (codes "FAULT") name

-- the name of the command that moves latches so
abbrev pub move_name : MoveKind → List ℕ
move_name Backward = codes "backward"
move_name Enables = codes "enables"

-- the name of the command that does the task
abbrev pub command_of : Task → List ℕ
command_of (Retime retiming) = codes "retime"
command_of (Move moving) = move_name moving.kind
command_of (Batch batch) = codes "batch"
command_of (Stat counting) = codes "stat"
command_of (Convert input output spelling) = codes "convert"
command_of (Sim simulation) = codes "sim"
command_of (Same comparison) = codes "same"
command_of (Verify verification) = codes "verify"
command_of (Check checking) = codes "check"
command_of (Miter asking) = codes "miter"
command_of (Product asking) = codes "product"
command_of (Lift lifting) = codes "lift"
command_of (Dot drawing) = codes "dot"
command_of (Witness carrying) = codes "witness"
command_of (Explain name) = codes "explain"

-- the task is that of the command with this name, by the arguments of the command
pub record Asks (name : List ℕ) (matches : ArgMatches) (task : Task) : Type 0 where
  pub command : command_of task ≡ name
  pub arguments : AsksFor matches task
