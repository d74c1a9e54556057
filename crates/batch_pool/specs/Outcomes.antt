-- What becomes of the bytes of a file by options.
use Rattle.std.specs.Prelude.{ℕ, ◌≡◌, ⊤, true, List, Some, Ok, Err, length, slice_get}
use Rattle.file_words.specs.declared.fault.ReadError.{ReadError}
use Rattle.file_words.specs.Codes.{is_fault_of_bytes}
use Rattle.aig_graph.specs.Circuits.{Netlist}
use Rattle.aig_binary.specs.Spellings.{spelling_of, read_any}
use Rattle.aig_binary.specs.declared.reading.SpeltCircuit.{SpeltCircuit}
use Rattle.merging_rounds.specs.declared.rounds.Rounds.{Rounds}
use Rattle.frame_runs.specs.declared.options.Options.{Options}
use Rattle.frame_runs.specs.Named.{IsFirstMissingBy, IsFirstNoLatchBy}
use Rattle.frames.specs.Answering.{IsAnswer, ReadsBack, text_for}
use Rattle.batch_pool.specs.declared.job.Job.{Job}
use Rattle.batch_pool.specs.declared.job.Outcome.{Outcome}
use Rattle.batch_pool.specs.declared.job.Outcome.TheVariants.{Done, Misread, NoMemory, NoSuchLatch, NoSuchName, NotShown, Refused}

-- the bytes are those of a circuit in a spelling, and this is its text retimed, which is read as
-- the retimed circuit
pub record IsDone (bytes : List ℕ) (options : Options) (text : List ℕ) (before after frames : ℕ) : Type 0 where
  pub spelt : SpeltCircuit
  pub circuit : read_any bytes ≡ Ok spelt.circuit
  pub spelling : spelling_of bytes ≡ Some spelt.spelling
  pub rounds : Rounds
  pub answer : IsAnswer options spelt rounds
  pub text_is : text ≡ text_for options spelt rounds
  pub reads_back : ReadsBack options spelt rounds
  pub before_is : before ≡ length spelt.circuit.aig.latches
  pub after_is : after ≡ length rounds.circuit.aig.latches
  pub frames_is : frames ≡ length rounds.frames

-- the bytes are no circuit, and this is their first fault
pub record IsRefused (bytes : List ℕ) (fault : ReadError) : Type 0 where
  pub read : read_any bytes ≡ Err fault
  pub of_bytes : is_fault_of_bytes fault ≡ true

-- the bytes are those of a circuit, and the name at this place is the first that is that of no
-- latch
pub record IsUnnamed (bytes : List ℕ) (options : Options) (place : ℕ) : Type 0 where
  pub circuit : Netlist
  pub read : read_any bytes ≡ Ok circuit
  pub missing : IsFirstMissingBy options circuit place

-- the bytes are those of a circuit, and the position at this place is the first that is that of no
-- latch
pub record IsUnplaced (bytes : List ℕ) (options : Options) (place : ℕ) : Type 0 where
  pub circuit : Netlist
  pub read : read_any bytes ≡ Ok circuit
  pub no_latch : IsFirstNoLatchBy options circuit place

-- the bytes are those of a circuit; that latches aren't merged by given classes says no more of it
pub record IsUnmerged (bytes : List ℕ) : Type 0 where
  pub circuit : Netlist
  pub read : read_any bytes ≡ Ok circuit

-- what becomes of the bytes of a file; want of memory says nothing of them
abbrev pub IsOutcome : List ℕ → Options → Outcome → Type 0
IsOutcome bytes options (Done text before after frames) = IsDone bytes options text.items before after frames
IsOutcome bytes options (Refused fault) = IsRefused bytes fault
IsOutcome bytes options NoMemory = ⊤
IsOutcome bytes options (NoSuchName place) = IsUnnamed bytes options place
IsOutcome bytes options (NoSuchLatch place) = IsUnplaced bytes options place
IsOutcome bytes options (Misread latch) = IsUnmerged bytes
IsOutcome bytes options (NotShown latch) = IsUnmerged bytes

-- what becomes of each job, in their order
pub record AreOutcomes (options : Options) (jobs : List Job) (outcomes : List Outcome) : Type 0 where
  pub many : length outcomes ≡ length jobs
  pub each : (k : ℕ) (job : Job) (outcome : Outcome) → slice_get jobs k ≡ Some job → slice_get outcomes k ≡ Some outcome → IsOutcome job.bytes.items options outcome
