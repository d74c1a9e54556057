-- How a run ends, by why its command failed.
use Rattle.std.specs.Prelude.{◌≡◌, ◌⊎◌, List, ℕ, Option, Some, None}
use Rattle.std.specs.Borrow.{Bor}
use Rattle.counted_io.specs.Output.{Output}
use Rattle.file_words.specs.declared.fault.ReadError.{ReadError}
use Rattle.file_words.specs.declared.fault.ReadError.TheVariants as reading
use Rattle.counted_io.specs.declared.reading.ReadAllError.{ReadAllError}
use Rattle.counted_io.specs.declared.reading.ReadAllError.TheVariants as whole
use Rattle.circuit_files.specs.declared.fault.ListError.{ListError}
use Rattle.circuit_files.specs.declared.fault.ListError.TheVariants as lists
use Rattle.certificate_files.specs.declared.fault.CertError.{CertError}
use Rattle.certificate_files.specs.declared.fault.CertError.TheVariants as certificates
use Rattle.lane_sim.specs.declared.fault.StimError.{StimError}
use Rattle.lane_sim.specs.declared.fault.StimError.TheVariants as stimuli
use Rattle.witnesses.specs.declared.fault.WitnessError.{WitnessError}
use Rattle.witnesses.specs.declared.fault.WitnessError.TheVariants as witnesses
use Rattle.circuit_files.specs.declared.outcome.Outcome.{Outcome}
use Rattle.circuit_files.specs.declared.outcome.Outcome.TheVariants as ends
use Rattle.circuit_files.specs.declared.outcome.Failure.{Failure}
use Rattle.circuit_files.specs.declared.outcome.Failure.TheVariants as fails

-- how a run with a failure ends
abbrev pub outcome_of : Failure → Outcome
outcome_of (fails.Refused path fault) = ends.Refused
outcome_of (fails.RefusedStimulus path fault) = ends.Refused
outcome_of (fails.RefusedList path fault) = ends.Refused
outcome_of (fails.RefusedCertificates path fault) = ends.Refused
outcome_of (fails.RefusedWitness path fault) = ends.Refused
outcome_of (fails.NoSuchName path name) = ends.Refused
outcome_of (fails.NoSuchLatch path place) = ends.Refused
outcome_of (fails.Misread path latch) = ends.Refused
outcome_of (fails.NotShown path latch) = ends.Refused
outcome_of (fails.TooManyNodes path) = ends.Refused
outcome_of (fails.TooManySteps path) = ends.Refused
outcome_of (fails.NotAMap path) = ends.Refused
outcome_of (fails.NoSuchLiteral path) = ends.Refused
outcome_of (fails.Device path) = ends.Device
outcome_of fails.Memory = ends.Memory

-- the path of the file that it is about; none if memory was wanting
abbrev pub path_of : Failure → Option (Bor (List ℕ))
path_of (fails.Refused path fault) = Some path
path_of (fails.RefusedStimulus path fault) = Some path
path_of (fails.RefusedList path fault) = Some path
path_of (fails.RefusedCertificates path fault) = Some path
path_of (fails.RefusedWitness path fault) = Some path
path_of (fails.NoSuchName path name) = Some path
path_of (fails.NoSuchLatch path place) = Some path
path_of (fails.Misread path latch) = Some path
path_of (fails.NotShown path latch) = Some path
path_of (fails.TooManyNodes path) = Some path
path_of (fails.TooManySteps path) = Some path
path_of (fails.NotAMap path) = Some path
path_of (fails.NoSuchLiteral path) = Some path
path_of (fails.Device path) = Some path
path_of fails.Memory = None

-- the failure names this file, or none, since memory was wanting
abbrev pub IsAbout : List ℕ → Failure → Type 0
IsAbout name (fails.Refused path fault) = path.now ≡ name
IsAbout name (fails.RefusedStimulus path fault) = path.now ≡ name
IsAbout name (fails.RefusedList path fault) = path.now ≡ name
IsAbout name (fails.RefusedCertificates path fault) = path.now ≡ name
IsAbout name (fails.RefusedWitness path fault) = path.now ≡ name
IsAbout name (fails.NoSuchName path latch) = path.now ≡ name
IsAbout name (fails.NoSuchLatch path place) = path.now ≡ name
IsAbout name (fails.Misread path latch) = path.now ≡ name
IsAbout name (fails.NotShown path latch) = path.now ≡ name
IsAbout name (fails.TooManyNodes path) = path.now ≡ name
IsAbout name (fails.TooManySteps path) = path.now ≡ name
IsAbout name (fails.NotAMap path) = path.now ≡ name
IsAbout name (fails.NoSuchLiteral path) = path.now ≡ name
IsAbout name (fails.Device path) = path.now ≡ name
IsAbout name fails.Memory = Unit {0}

-- the failure of an error of reading a circuit or a stimulus, with the file's path
abbrev pub failure_of_reading : ReadError → Bor (List ℕ) → Failure
failure_of_reading reading.NoMemory path = fails.Memory
failure_of_reading reading.Device path = fails.Device path
failure_of_reading fault path = fails.Refused path fault

-- the failure of an error of reading a file, with its path
abbrev pub failure_of_bytes : ReadAllError → Bor (List ℕ) → Failure
failure_of_bytes whole.NoMemory path = fails.Memory
failure_of_bytes whole.Device path = fails.Device path

-- that of a fault of a stimulus
abbrev pub failure_of_stimulus : StimError → Bor (List ℕ) → Failure
failure_of_stimulus stimuli.NoMemory path = fails.Memory
failure_of_stimulus fault path = fails.RefusedStimulus path fault

-- that of a fault of a list
abbrev pub failure_of_list : ListError → Bor (List ℕ) → Failure
failure_of_list lists.NoMemory path = fails.Memory
failure_of_list fault path = fails.RefusedList path fault

-- that of a fault of certificates
abbrev pub failure_of_certificates : CertError → Bor (List ℕ) → Failure
failure_of_certificates certificates.NoMemory path = fails.Memory
failure_of_certificates fault path = fails.RefusedCertificates path fault

-- that of a fault of a counterexample
abbrev pub failure_of_witness : WitnessError → Bor (List ℕ) → Failure
failure_of_witness witnesses.NoMemory path = fails.Memory
failure_of_witness fault path = fails.RefusedWitness path fault

-- nothing is printed, unless all was done, circuits were compared, certificates were checked, or a
-- device failed
abbrev pub IsQuiet : Outcome → Output → Output → Type 0
IsQuiet outcome old new = (outcome ≡ ends.Done) ⊎ (outcome ≡ ends.ShapesDiffer) ⊎ (outcome ≡ ends.Differ) ⊎ (outcome ≡ ends.Unconfirmed) ⊎ (outcome ≡ ends.Device) ⊎ (new ≡ old)
