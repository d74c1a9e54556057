-- What a command may have given standard output, by how it ended.
use Rattle.std.specs.Prelude.{ℕ, ◌≡◌, ◌⊎◌, List, Result, Ok, Err, MatchResult}
use Rattle.counted_io.specs.Output.{Output, WritesAll, WritesPart}
use Rattle.reports.specs.Differences.{shapes_text}
use Rattle.json_reports.specs.Differences.{shapes_data}
use Rattle.json_reports.specs.Lines.{json_line}
use Rattle.circuit_files.specs.Outcomes.{outcome_of}
use Rattle.circuit_files.specs.declared.outcome.Outcome.{Outcome}
use Rattle.circuit_files.specs.declared.outcome.Outcome.TheVariants.{Done, Refused, ShapesDiffer, CommandLine, Device, Memory, Differ, Unconfirmed}
use Rattle.circuit_files.specs.declared.outcome.Failure.{Failure}

-- how the run of a command ends
abbrev pub ending : Result Outcome Failure → Outcome
ending (Ok outcome) = outcome
ending (Err failure) = outcome_of failure

-- all of the text is printed and the run ends so, or a beginning of it, and standard output has
-- failed
abbrev pub EndsPrinting : Outcome → List ℕ → Output → Output → Result Outcome Failure → Type 0
EndsPrinting outcome text old new result =
    MatchResult result (λ ended. (ended ≡ outcome) × WritesAll old new text) (λ failure. (outcome_of failure ≡ Device) × WritesPart old new text)

-- all of the text was printed, and the run ends so
pub record EndsWith (outcome : Outcome) (text : List ℕ) (old new : Output) (ended : Outcome) : Type 0 where
  pub ends : ended ≡ outcome
  pub prints : WritesAll old new text

-- if standard output has been given something else, nothing is printed to it, and the run ends so
-- whatever becomes of that
pub record EndsAside (outcome : Outcome) (old new : Output) (result : Result Outcome Failure) : Type 0 where
  pub ends : ending result ≡ outcome
  pub quiet : new ≡ old

-- a command but `batch` prints nothing if refused or short of memory, and all of its line if shapes
-- differ
abbrev pub Prints : Outcome → Output → Output → Type 0
Prints Done old new = Unit {0}
Prints Differ old new = Unit {0}
Prints Unconfirmed old new = Unit {0}
Prints Device old new = Unit {0}
Prints ShapesDiffer old new = WritesAll old new shapes_text ⊎ WritesAll old new (json_line shapes_data)
Prints Refused old new = new ≡ old
Prints CommandLine old new = new ≡ old
Prints Memory old new = new ≡ old
