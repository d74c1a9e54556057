-- The files of a batch: which outcome goes to which path, that a circuit was written, and which of
-- them a failure is of.
use Rattle.std.specs.Prelude.{ℕ, ◌≡◌, ◌⊎◌, All, Contains, List, map, codes}
use Rattle.circuit_files.specs.declared.entry.Entry.{Entry}
use Rattle.batch_pool.specs.declared.job.Outcome.{Outcome as JobOutcome}
use Rattle.batch_pool.specs.declared.job.Outcome.TheVariants as jobs
use Rattle.reports.specs.declared.batch.JobReport.{JobReport}
use Rattle.circuit_files.specs.Outcomes.{IsAbout, outcome_of}
use Rattle.circuit_files.specs.declared.outcome.Outcome.TheVariants.{Device}
use Rattle.circuit_files.specs.declared.outcome.Failure.{Failure}
use Rattle.fretime.specs.Batches.{report_of}
use Rattle.fretime.specs.declared.answers.Answer.{Answer}

-- each outcome beside the output of its entry
pub record AreAnswersOf (entries : List Entry) (outcomes : List JobOutcome) (answers : List Answer) : Type 0 where
  pub outputs : map (λ answer. answer.output.now) answers ≡ map (λ entry. entry.output.now) entries
  pub outcomes_are : map (λ answer. answer.outcome.now) answers ≡ outcomes

-- what is printed of one of them
abbrev pub report_at : Answer → JobReport
report_at answer = report_of answer.outcome.now

-- a circuit that was retimed was written to this path, by what it means that a file was given a
-- text
abbrev pub IsWrittenTo : (List ℕ → List ℕ → Type 0) → List ℕ → JobOutcome → Type 0
IsWrittenTo FileGiven path (jobs.Done text before after frames) = FileGiven path text.items
IsWrittenTo FileGiven path (jobs.Refused fault) = Unit {0}
IsWrittenTo FileGiven path jobs.NoMemory = Unit {0}
IsWrittenTo FileGiven path (jobs.NoSuchName place) = Unit {0}
IsWrittenTo FileGiven path (jobs.NoSuchLatch place) = Unit {0}
IsWrittenTo FileGiven path (jobs.Misread latch) = Unit {0}
IsWrittenTo FileGiven path (jobs.NotShown latch) = Unit {0}

-- so was that of an answer to its path
abbrev pub IsWritten : (List ℕ → List ℕ → Type 0) → Answer → Type 0
IsWritten FileGiven answer = IsWrittenTo FileGiven answer.output.now answer.outcome.now

-- the circuits of all outcomes were written, each to the output of its entry
pub record AreAllWritten (FileGiven : List ℕ → List ℕ → Type 0) (entries : List Entry) (outcomes : List JobOutcome) : Type 0 where
  pub answers : List Answer
  pub are : AreAnswersOf entries outcomes answers
  pub written : All (IsWritten FileGiven) answers

-- this is so of one of them
pub record IsOfOne {X : Type 0} (Is : X → Type 0) (xs : List X) : Type 0 where
  pub one : X
  pub listed : Contains xs one
  pub is : Is one

-- a device has failed, that of the file with this path
pub record FailsAt (path : List ℕ) (failure : Failure) : Type 0 where
  pub ends : outcome_of failure ≡ Device
  pub about : IsAbout path failure

-- the file with this path is named, or memory was wanting
pub record NamesFile (path : List ℕ) (failure : Failure) : Type 0 where
  pub about : IsAbout path failure

-- so is the file that one of the entries reads
abbrev pub IsOfInput : List Entry → Failure → Type 0
IsOfInput entries failure = IsOfOne (λ (entry : Entry). NamesFile entry.input.now failure) entries

-- the file of one of the outputs has failed
abbrev pub IsOfOutput : List Answer → Failure → Type 0
IsOfOutput answers failure = IsOfOne (λ (answer : Answer). FailsAt answer.output.now failure) answers

-- that, or standard output
abbrev pub IsOfOutputs : List Answer → Failure → Type 0
IsOfOutputs answers failure = IsOfOutput answers failure ⊎ FailsAt (codes "stdout") failure
