-- How a batch ends.
use Rattle.std.proofs.Common.{◌≡◌, ◌⊎◌, Bool, List, [], ◌∷◌, fold, inl, inr, refl, sym, ◌∙◌, subst}
use Rattle.clap.specs.declared.error.kind.ErrorKind.{ErrorKind}
use Rattle.clap.specs.declared.error.kind.ErrorKind.TheVariants.{ArgumentConflict, DisplayHelp, DisplayVersion, OutOfMemory}
use Rattle.counted_io.specs.Output.{Output}
use Rattle.reports.specs.declared.batch.JobReport.{JobReport}
use Rattle.reports.specs.declared.batch.JobReport.TheVariants as reports
use Rattle.circuit_files.specs.declared.outcome.Outcome.{Outcome}
use Rattle.circuit_files.specs.declared.outcome.Outcome.TheVariants.{Done, Refused, ShapesDiffer, CommandLine, Device, Memory, Differ, Unconfirmed}
use Rattle.circuit_files.specs.Outcomes.{outcome_of}
use Rattle.circuit_files.specs.declared.outcome.Failure.{Failure}
use Rattle.circuit_files.specs.declared.outcome.Failure.TheVariants as fails
use Rattle.fretime.specs.Reporting.{PrintsFailure}
use Rattle.fretime.specs.Batches.{Printed, PrintsList, after}

-- done, refused, or without memory
abbrev IsEnd : Outcome → Type 0
IsEnd Done = Unit {0}
IsEnd Refused = Unit {0}
IsEnd Memory = Unit {0}
IsEnd ShapesDiffer = ⊥
IsEnd CommandLine = ⊥
IsEnd Device = ⊥
IsEnd Differ = ⊥
IsEnd Unconfirmed = ⊥

after_one : (ended : Outcome) (r : JobReport) → IsEnd ended → IsEnd (after ended r)
after_one Done (reports.Done before left) is = tt
after_one Done (reports.Refused fault) is = tt
after_one Done reports.NoMemory is = tt
after_one Done reports.NoSuchName is = tt
after_one Done reports.NoSuchLatch is = tt
after_one Done reports.Misread is = tt
after_one Done reports.NotShown is = tt
after_one Refused r is = tt
after_one Memory r is = tt
after_one ShapesDiffer r is = is
after_one CommandLine r is = is
after_one Device r is = is
after_one Differ r is = is
after_one Unconfirmed r is = is

after_all : (files : List JobReport) (ended : Outcome) → IsEnd ended → IsEnd (fold after ended files)
after_all [] ended is = is
after_all (r ∷ files) ended is = after_all files (after ended r) (after_one ended r is)

listed : (json : Bool) (ended : Outcome) (files : List JobReport) (old new : Output) → IsEnd ended → Printed json files ended old new → PrintsList json ended old new
listed json Done files old new is p = record { files = files; printed = p }
listed json Refused files old new is p = inr (record { files = files; printed = p })
listed json Memory files old new is p = inr (record { files = files; printed = p })
listed json Device files old new is p = tt
listed json ShapesDiffer files old new is p = is
listed json CommandLine files old new is p = absurd is
listed json Differ files old new is p = is
listed json Unconfirmed files old new is p = is

-- the files of a batch were printed, and the run ends by the worst of them
pub of_files : (json : Bool) (ended : Outcome) (files : List JobReport) (old new : Output) → Printed json files ended old new → PrintsList json ended old new
of_files json ended files old new p = listed json ended files old new (subst IsEnd (sym p.ends) (after_all files Done tt)) p

-- a batch that failed
refused : (json : Bool) (f : Failure) (old new : Output) → PrintsFailure json (outcome_of f) old new → PrintsList json (outcome_of f) old new
refused json (fails.Refused path fault) old new p = inl p
refused json (fails.RefusedStimulus path fault) old new p = inl p
refused json (fails.RefusedList path fault) old new p = inl p
refused json (fails.RefusedCertificates path fault) old new p = inl p
refused json (fails.RefusedWitness path fault) old new p = inl p
refused json (fails.NoSuchName path name) old new p = inl p
refused json (fails.NoSuchLatch path place) old new p = inl p
refused json (fails.Misread path latch) old new p = inl p
refused json (fails.NotShown path latch) old new p = inl p
refused json (fails.TooManyNodes path) old new p = inl p
refused json (fails.TooManySteps path) old new p = inl p
refused json (fails.NotAMap path) old new p = inl p
refused json (fails.NoSuchLiteral path) old new p = inl p
refused json (fails.Device path) old new p = tt
refused json fails.Memory old new p = inl p

-- how it ends
pub of_failure : (json : Bool) (f : Failure) (ended : Outcome) (old new : Output) → ended ≡ outcome_of f → PrintsFailure json (outcome_of f) old new → PrintsList json ended old new
of_failure json f ended old new is p = subst (λ (e : Outcome). PrintsList json e old new) (sym is) (refused json f old new p)

-- where a device failed, or memory was wanting for the object before anything was printed
pub of_late_failure : (json : Bool) (f : Failure) (ended : Outcome) (old mid new : Output)
    → ended ≡ outcome_of f → (outcome_of f ≡ Device) ⊎ ((outcome_of f ≡ Memory) × (mid ≡ old)) → PrintsFailure json (outcome_of f) mid new → PrintsList json ended old new
of_late_failure json f ended old mid new is (inl device) p = subst (λ (e : Outcome). PrintsList json e old new) (sym (is ∙ device)) tt
of_late_failure json f ended old mid new is (inr memory) p =
    of_failure json f ended old new is (subst (λ (s : Output). PrintsFailure json (outcome_of f) s new) memory.1 p)

is_help : (k : ErrorKind) → k ≡ ArgumentConflict → k ≡ DisplayHelp → ⊥
is_help k conflict help = cc

is_version : (k : ErrorKind) → k ≡ ArgumentConflict → k ≡ DisplayVersion → ⊥
is_version k conflict version = cc

-- where two files of a line are one
pub of_clash : (json : Bool) (ended : Outcome) (k : ErrorKind) (old : Output) → (k ≡ ArgumentConflict) ⊎ (k ≡ OutOfMemory) → (k ≡ OutOfMemory → ⊥)
    → ((k ≡ OutOfMemory → ⊥) → (k ≡ DisplayHelp → ⊥) → (k ≡ DisplayVersion → ⊥) → ended ≡ CommandLine) → PrintsList json ended old old
of_clash json ended k old (inl conflict) other mistake =
    subst (λ (e : Outcome). PrintsList json e old old) (sym (mistake other (is_help k conflict) (is_version k conflict))) refl
of_clash json ended k old (inr memory) other mistake = absurd (other memory)
