-- What is printed if a command failed.
use Rattle.std.specs.Prelude.{ℕ, ◌≡◌, ◌⊎◌, Bool, true, false, List, Option, Some, None, Result, Ok, Err, codes, if◌then◌else◌}
use Rattle.std.specs.Borrow.{Bor}
use Rattle.std.specs.Str.{bytes_eq}
use Rattle.counted_io.specs.Output.{Output}
use Rattle.command_line.specs.Asking.{move_name}
use Rattle.command_line.specs.StreamUses.{moving_takes_stdout, takes_stdout}
use Rattle.command_line.specs.declared.task.Drawing.{Drawing}
use Rattle.command_line.specs.declared.task.Task.{Task}
use Rattle.command_line.specs.declared.task.Task.TheVariants.{Retime, Move, Batch, Stat, Convert, Sim, Same, Verify, Check, Miter, Product, Lift, Dot, Witness, Explain}
use Rattle.circuit_files.specs.Codes.{status_of}
use Rattle.circuit_files.specs.Outcomes.{outcome_of}
use Rattle.circuit_files.specs.declared.outcome.Outcome.{Outcome}
use Rattle.circuit_files.specs.declared.outcome.Failure.{Failure}
use Rattle.circuit_files.specs.declared.outcome.Failure.TheVariants as fails
use Rattle.command_endings.specs.Objects.{PrintsRefusal, SaysRefusal, refusal_of}

-- what a failure gives standard output, if an object is asked for and if it isn't
abbrev pub PrintsFailure : Bool → Outcome → Output → Output → Type 0
PrintsFailure true outcome old new = PrintsRefusal (status_of outcome) old new
PrintsFailure false outcome old new = new ≡ old

-- the object of which failure that is, and of which command
abbrev pub SaysFailure : Bool → Bor (List ℕ) → Failure → Output → Output → Type 0
SaysFailure true command failure old new = SaysRefusal (refusal_of command failure) old new
SaysFailure false command failure old new = new ≡ old

-- the object of this failure of the command with this name
pub record SaysFailureBy (json : Bool) (name : List ℕ) (failure : Failure) (old new : Output) : Type 0 where
  pub command : Bor (List ℕ)
  pub named : command.now ≡ name
  pub says : SaysFailure json command failure old new

abbrev pub if_json : Bool → List ℕ → Option (List ℕ)
if_json json name = if json then Some name else None

-- the name of a task's command, if its failures are printed as objects; a batch prints its own
abbrev pub object_command : Task → Option (List ℕ)
object_command (Retime retiming) = if_json retiming.json (codes "retime")
object_command (Move moving) = if_json moving.json (move_name moving.kind)
object_command (Stat counting) = if_json counting.json (codes "stat")
object_command (Same comparison) = if_json comparison.json (codes "same")
object_command (Verify verification) = if_json verification.json (codes "verify")
object_command (Batch batch) = None
object_command (Convert input output spelling) = None
object_command (Sim simulation) = None
object_command (Check checking) = None
object_command (Miter asking) = None
object_command (Product asking) = None
object_command (Lift lifting) = None
object_command (Dot drawing) = None
object_command (Witness carrying) = None
object_command (Explain name) = None

-- whether objects go to standard error, since standard output is given a circuit or certificates
abbrev pub prints_aside : Task → Bool
prints_aside (Retime retiming) = takes_stdout retiming
prints_aside (Move moving) = moving_takes_stdout moving
prints_aside (Batch batch) = false
prints_aside (Stat counting) = false
prints_aside (Convert input output spelling) = false
prints_aside (Sim simulation) = false
prints_aside (Same comparison) = false
prints_aside (Verify verification) = false
prints_aside (Check checking) = false
prints_aside (Miter asking) = false
prints_aside (Product asking) = false
prints_aside (Lift lifting) = false
prints_aside (Dot drawing) = false
prints_aside (Witness carrying) = false
prints_aside (Explain name) = false

-- what a failure of the command with this name gives standard output, if it has any
abbrev pub SaysOn : Bool → Option (List ℕ) → Failure → Output → Output → Type 0
SaysOn aside None failure old new = new ≡ old
SaysOn true (Some name) failure old new = new ≡ old
SaysOn false (Some name) failure old new = SaysFailureBy true name failure old new

-- what a failure of a task gives standard output
abbrev pub SaysWhy : Task → Failure → Output → Output → Type 0
SaysWhy task failure old new = SaysOn (prints_aside task) (object_command task) failure old new

-- a failure prints so if a command failed, and else nothing more is printed
abbrev pub PrintsEnd : Bool → Result Outcome Failure → Output → Output → Type 0
PrintsEnd json (Ok outcome) old new = new ≡ old
PrintsEnd json (Err failure) old new = PrintsFailure json (outcome_of failure) old new

-- by what the task asks for
abbrev pub MayRefuse : Result Outcome Failure → Output → Output → Type 0
MayRefuse ended old new = PrintsEnd false ended old new ⊎ PrintsEnd true ended old new

-- whether this is the name whose neighbourhood is drawn
abbrev pub is_middle : Option (Bor (List ℕ)) → List ℕ → Bool
is_middle None name = false
is_middle (Some around) name = bytes_eq around.now name

-- whether a picture is of the neighbourhood of this name
abbrev pub is_around : Drawing → List ℕ → Bool
is_around drawing name = is_middle drawing.around name

-- whether a failure is that nothing has that name
abbrev pub lacks_middle : Drawing → Failure → Bool
lacks_middle drawing (fails.NoSuchName path name) = is_around drawing name.now
lacks_middle drawing failure = false

-- whether the name that a failure is about may be that of anything, and not of a latch alone
abbrev pub is_of_all : Task → Failure → Bool
is_of_all (Dot drawing) failure = lacks_middle drawing failure
is_of_all task failure = false
