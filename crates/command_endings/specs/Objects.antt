-- What a command prints for other programs, and how it ends then.
use Rattle.std.specs.Prelude.{ℕ, ◌≡◌, ◌⊎◌, List, Option, Some, None, Result, Ok, Err, MatchResult}
use Rattle.std.specs.Borrow.{Bor}
use Rattle.counted_io.specs.Output.{Output, WritesAll, WritesPart}
use Rattle.file_words.specs.declared.fault.ReadError.TheVariants as reading
use Rattle.lane_sim.specs.declared.difference.Place.{Place}
use Rattle.serde_json.specs.Data.{Data}
use Rattle.json_reports.specs.Lines.{json_line}
use Rattle.json_reports.specs.Refusals.{refusal_data}
use Rattle.json_reports.specs.declared.fault.Fault.{Fault}
use Rattle.json_reports.specs.declared.fault.Fault.TheVariants as faults
use Rattle.json_reports.specs.declared.printing.PrintError.{PrintError}
use Rattle.json_reports.specs.declared.printing.PrintError.TheVariants as printing
use Rattle.json_reports.specs.declared.refusal.Refusal.{Refusal}
use Rattle.circuit_files.specs.Codes.{status_of}
use Rattle.circuit_files.specs.Outcomes.{outcome_of, path_of}
use Rattle.circuit_files.specs.declared.outcome.Outcome.{Outcome}
use Rattle.circuit_files.specs.declared.outcome.Outcome.TheVariants.{Done, Device, Differ, Memory}
use Rattle.circuit_files.specs.declared.outcome.Failure.{Failure}
use Rattle.circuit_files.specs.declared.outcome.Failure.TheVariants as fails

-- how a command ends by this, once its object was printed or not
abbrev pub EndsBy : {T : Type 0} → Result T PrintError → Outcome → Result Outcome Failure → Type 0
EndsBy (Ok x) outcome result = result ≡ Ok outcome
EndsBy (Err printing.NoMemory) outcome result = result ≡ Err fails.Memory
EndsBy (Err printing.Device) outcome result = (name : Bor (List ℕ)) × (result ≡ Err (fails.Device name))

-- nothing was printed if there was no room for the text, and else a beginning of it, and standard
-- output has failed
abbrev pub FailsPrintingObject : Data → Output → Output → Failure → Type 0
FailsPrintingObject value old new failure =
    ((outcome_of failure ≡ Memory) × (new ≡ old)) ⊎ ((outcome_of failure ≡ Device) × WritesPart old new (json_line value))

-- all of the object is printed on a line and the run ends so, or the command failed
abbrev pub EndsPrintingObject : Outcome → Data → Output → Output → Result Outcome Failure → Type 0
EndsPrintingObject outcome value old new result =
    MatchResult result (λ ended. (ended ≡ outcome) × WritesAll old new (json_line value)) (FailsPrintingObject value old new)

-- how comparing two circuits ends
abbrev pub outcome_of_difference : Option Place → Outcome
outcome_of_difference (Some place) = Differ
outcome_of_difference None = Done

-- the fault that a failure is
abbrev pub fault_of : Failure → Fault
fault_of (fails.Refused path fault) = faults.Circuit fault
fault_of (fails.RefusedStimulus path fault) = faults.Stimulus fault
fault_of (fails.RefusedList path fault) = faults.FileList fault
fault_of (fails.RefusedCertificates path fault) = faults.Certificates fault
fault_of (fails.RefusedWitness path fault) = faults.Witness fault
fault_of (fails.NoSuchName path name) = faults.NoSuchName
fault_of (fails.NoSuchLatch path place) = faults.NoSuchLatch
fault_of (fails.Misread path latch) = faults.Misread
fault_of (fails.NotShown path latch) = faults.NotShown
fault_of (fails.TooManyNodes path) = faults.TooManyNodes
fault_of (fails.TooManySteps path) = faults.TooManySteps
fault_of (fails.NotAMap path) = faults.NotAMap
fault_of (fails.NoSuchLiteral path) = faults.NoSuchLiteral
fault_of (fails.Device path) = faults.Device
fault_of fails.Memory = faults.Circuit reading.NoMemory

-- the name that is that of no latch
abbrev pub name_of : Failure → Option (Bor (List ℕ))
name_of (fails.NoSuchName path name) = Some name
name_of (fails.Refused path fault) = None
name_of (fails.RefusedStimulus path fault) = None
name_of (fails.RefusedList path fault) = None
name_of (fails.RefusedCertificates path fault) = None
name_of (fails.RefusedWitness path fault) = None
name_of (fails.NoSuchLatch path place) = None
name_of (fails.Misread path latch) = None
name_of (fails.NotShown path latch) = None
name_of (fails.TooManyNodes path) = None
name_of (fails.TooManySteps path) = None
name_of (fails.NotAMap path) = None
name_of (fails.NoSuchLiteral path) = None
name_of (fails.Device path) = None
name_of fails.Memory = None

-- what is printed of a failure of this command
abbrev pub refusal_of : Bor (List ℕ) → Failure → Refusal
refusal_of command failure = record {
  command = command;
  fault = fault_of failure;
  latch = name_of failure;
  path = path_of failure;
  status = status_of (outcome_of failure);
}

-- the line of this refusal was printed, or a beginning of it, or nothing
abbrev pub SaysRefusal : Refusal → Output → Output → Type 0
SaysRefusal refusal old new =
    (new ≡ old) ⊎ WritesAll old new (json_line (refusal_data refusal)) ⊎ WritesPart old new (json_line (refusal_data refusal))

-- the line of a refusal with this status, or a beginning of it, or nothing
pub record PrintsRefusal (status : ℕ) (old new : Output) : Type 0 where
  pub refusal : Refusal
  pub states : refusal.status ≡ status
  pub prints : SaysRefusal refusal old new
