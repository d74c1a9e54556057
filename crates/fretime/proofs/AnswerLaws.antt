-- The files of a batch, one after another: their outcomes beside their outputs, and that each
-- circuit was written.
use Rattle.std.proofs.Common.{ℕ, ◌+◌, ◌<◌, ◌≤◌, ◌≡◌, Bool, List, [], ◌∷◌, ◌++◌, All, Result, Ok, Err, length, map, take, get_or, refl, sym, ap, ap₂, ◌∙◌, subst, arith}
use Rattle.std.specs.Prelude.{IfOk, OnOk}
use Rattle.std.proofs.lemmas.List.{get_or_default, map-append, map_more, take_all, take_more}
use Rattle.std.proofs.lemmas.List.Elements.{All-more}
use Rattle.counted_io.specs.Output.{Output}
use Rattle.circuit_files.specs.declared.entry.Entry.{Entry}
use Rattle.batch_pool.specs.declared.job.Outcome.{Outcome as JobOutcome}
use Rattle.reports.specs.declared.batch.JobReport.{JobReport}
use Rattle.circuit_files.specs.declared.outcome.Outcome.{Outcome}
use Rattle.circuit_files.specs.declared.outcome.Failure.{Failure}
use Rattle.fretime.specs.declared.answers.Answer.{Answer}
use Rattle.fretime.specs.Answers.{AreAllWritten, AreAnswersOf, IsOfInput, IsWritten, NamesFile, report_at}
use Rattle.fretime.specs.Batches.{Printed, report_of}

-- the file that this entry reads is named
pub of_input : (entries : List Entry) (k : ℕ) (d : Entry) (failure : Failure) → k < length entries → NamesFile (get_or entries k d).input.now failure → IsOfInput entries failure
of_input entries k d failure within names = record { one = get_or entries k d; listed = (k, within, get_or_default entries k (get_or entries k d) d within); is = names }

-- one more circuit was written
pub one_more_written : (FileGiven : List ℕ → List ℕ → Type 0) (answers : List Answer) (k : ℕ) (a : Answer) → k < length answers → a ≡ get_or answers k a
    → All (IsWritten FileGiven) (take k answers) → IsWritten FileGiven a → All (IsWritten FileGiven) (take (k + 1) answers)
one_more_written FileGiven answers k a within there before is = All-more (IsWritten FileGiven) answers k a within before (subst (IsWritten FileGiven) there is)

reports_at : (answers : List Answer) → map report_at answers ≡ map report_of (map (λ (a : Answer). a.outcome.now) answers)
reports_at [] = refl
reports_at (a ∷ more) = ap (λ (rs : List JobReport). report_of a.outcome.now ∷ rs) (reports_at more)

-- what was printed of the pairs was printed of the outcomes
pub printed_of : (json : Bool) (entries : List Entry) (outcomes : List JobOutcome) (answers : List Answer) (old new : Output) (result : Result Outcome Failure)
    → AreAnswersOf entries outcomes answers → IfOk result (λ ended. Printed json (map report_at answers) ended old new) → IfOk result (λ ended. Printed json (map report_of outcomes) ended old new)
printed_of json entries outcomes answers old new (Ok ended) are printed =
    subst (λ (files : List JobReport). Printed json files ended old new) (reports_at answers ∙ ap (map report_of) are.outcomes_are) printed
printed_of json entries outcomes answers old new (Err failure) are printed = tt

-- and what was written of them
pub written_of : (FileGiven : List ℕ → List ℕ → Type 0) (entries : List Entry) (outcomes : List JobOutcome) (answers : List Answer) (result : Result Outcome Failure)
    → AreAnswersOf entries outcomes answers → OnOk result (All (IsWritten FileGiven) answers) → OnOk result (AreAllWritten FileGiven entries outcomes)
written_of FileGiven entries outcomes answers (Ok ended) are written = record { answers = answers; are = are; written = written }
written_of FileGiven entries outcomes answers (Err failure) are written = tt

-- the report of one file more
pub one_more_report : (answers : List Answer) (k : ℕ) (a : Answer) (old new : List JobReport) (r : JobReport) → k < length answers → a ≡ get_or answers k a → r ≡ report_at a
    → old ≡ map report_at (take k answers) → new ≡ old ++ r ∷ [] → new ≡ map report_at (take (k + 1) answers)
one_more_report answers k a old new r within there is before pushed =
    pushed ∙ ap₂ (λ (xs : List JobReport) (x : JobReport). xs ++ x ∷ []) before (is ∙ ap report_at there) ∙ sym (map_more report_at answers k a within)

-- one outcome more, beside the output of its entry
pub one_more_answer : (entries : List Entry) (outcomes : List JobOutcome) (k : ℕ) (d : Entry) (o : JobOutcome) (a : Answer) (old new : List Answer)
    → k < length entries → k < length outcomes → o ≡ get_or outcomes k o → a.output.now ≡ (get_or entries k d).output.now → a.outcome.now ≡ o
    → AreAnswersOf (take k entries) (take k outcomes) old → new ≡ old ++ a ∷ [] → AreAnswersOf (take (k + 1) entries) (take (k + 1) outcomes) new
one_more_answer entries outcomes k d o a old new listed within is named of before pushed = record {
  outputs =
      ap (map (λ (x : Answer). x.output.now)) pushed ∙ map-append (λ (x : Answer). x.output.now) old (a ∷ [])
      ∙ ap₂ (λ (xs : List (List ℕ)) (x : List ℕ). xs ++ x ∷ []) before.outputs named ∙ sym (map_more (λ (x : Entry). x.output.now) entries k d listed);
  outcomes_are =
      ap (map (λ (x : Answer). x.outcome.now)) pushed ∙ map-append (λ (x : Answer). x.outcome.now) old (a ∷ [])
      ∙ ap₂ (λ (xs : List JobOutcome) (x : JobOutcome). xs ++ x ∷ []) before.outcomes_are (of ∙ is) ∙ sym (take_more outcomes k o within);
}

-- those of all entries
pub all_answers : (entries : List Entry) (outcomes : List JobOutcome) (k : ℕ) (answers : List Answer) → length outcomes ≤ k → length outcomes ≡ length entries
    → AreAnswersOf (take k entries) (take k outcomes) answers → AreAnswersOf entries outcomes answers
all_answers entries outcomes k answers end each are = record {
  outputs = are.outputs ∙ ap (map (λ (x : Entry). x.output.now)) (take_all k entries (omega (arith, end, each)));
  outcomes_are = are.outcomes_are ∙ take_all k outcomes end;
}
