-- What a run prints, by its status.
use Rattle.std.proofs.Common.{ℕ, ◌≡◌, ◌⊎◌, List, Bool, true, false, inl, inr, Result, Ok, Err, refl, sym, ◌∙◌, subst, ⊎_elim, arith}
use Rattle.std.specs.Result.{IfOk}
use Rattle.counted_io.specs.Input.{Input}
use Rattle.counted_io.specs.Output.{Output}
use Rattle.circuit_files.specs.Codes.{status_of}
use Rattle.circuit_files.specs.Outcomes.{outcome_of}
use Rattle.circuit_files.specs.declared.outcome.Outcome.{Outcome}
use Rattle.circuit_files.specs.declared.outcome.Outcome.TheVariants.{Done, Refused, ShapesDiffer, CommandLine, Device, Memory, Differ, Unconfirmed}
use Rattle.circuit_files.specs.declared.outcome.Failure.{Failure}
use Rattle.circuit_files.specs.declared.outcome.Failure.TheVariants as fails
use Rattle.fretime.specs.Reporting.{MayRefuse, PrintsFailure}
use Rattle.command_endings.specs.Printing.{Prints, ending}
use Rattle.command_line.specs.declared.task.Task.{Task}
use Rattle.fretime.specs.Batches.{PrintsList}
use Rattle.fretime.specs.Runs.{Does, MayGive, MayPrint, PrintsFilesOrRefusal, PrintsShapes}

-- a command that isn't a batch
pub by_command : (r : Result Outcome Failure) (old new : Output) → Prints (ending r) old new → MayGive r old new
by_command (Ok outcome) old new prints = inl prints
by_command (Err failure) old new prints = prints

-- what a command ensures where it didn't fail
pub both : {T E : Type 0} (r : Result T E) (P Q : T → Type 0) → IfOk r P → IfOk r Q → IfOk r (λ x. P x × Q x)
both (Ok x) P Q p q = (p, q)
both (Err e) P Q p q = tt

-- What a task's command ensures, if it didn't fail, is what the task does: `other` is the task as
-- the branch has it.
pub by_task : (FileGiven : List ℕ → List ℕ → Type 0) (r : Result Outcome Failure) (is_terminal : Bool) (before after : Input) (old new said : Output) (task other : Task)
    → task ≡ other → IfOk r (Does FileGiven other is_terminal before after old new said) → IfOk r (Does FileGiven task is_terminal before after old new said)
by_task FileGiven r is_terminal before after old new said task other is does = subst (λ (it : Task). IfOk r (Does FileGiven it is_terminal before after old new said)) (sym is) does

-- a failure of it that gave standard output nothing before
printed : (json : Bool) (o : Outcome) (old mid new : Output) → mid ≡ old → ((json : Bool) → PrintsFailure json o old new → PrintsList json o old new) → Prints o old old
    → PrintsFailure json o mid new → MayPrint o old new
printed true o old mid new same list nothing p = inr (inr (list true (subst (λ (s : Output). PrintsFailure true o s new) same p)))
printed false o old mid new same list nothing p = inl (subst (λ (s : Output). Prints o old s) (sym (p ∙ same)) nothing)

failed : (json : Bool) (f : Failure) (old mid new : Output) → Prints (outcome_of f) old mid → PrintsFailure json (outcome_of f) mid new → MayPrint (outcome_of f) old new
failed json (fails.Refused path fault) old mid new same p = printed json Refused old mid new same (λ j q. inl q) refl p
failed json (fails.RefusedStimulus path fault) old mid new same p = printed json Refused old mid new same (λ j q. inl q) refl p
failed json (fails.RefusedList path fault) old mid new same p = printed json Refused old mid new same (λ j q. inl q) refl p
failed json (fails.RefusedCertificates path fault) old mid new same p = printed json Refused old mid new same (λ j q. inl q) refl p
failed json (fails.RefusedWitness path fault) old mid new same p = printed json Refused old mid new same (λ j q. inl q) refl p
failed json (fails.NoSuchName path name) old mid new same p = printed json Refused old mid new same (λ j q. inl q) refl p
failed json (fails.NoSuchLatch path place) old mid new same p = printed json Refused old mid new same (λ j q. inl q) refl p
failed json (fails.Misread path latch) old mid new same p = printed json Refused old mid new same (λ j q. inl q) refl p
failed json (fails.NotShown path latch) old mid new same p = printed json Refused old mid new same (λ j q. inl q) refl p
failed json (fails.TooManyNodes path) old mid new same p = printed json Refused old mid new same (λ j q. inl q) refl p
failed json (fails.TooManySteps path) old mid new same p = printed json Refused old mid new same (λ j q. inl q) refl p
failed json (fails.NotAMap path) old mid new same p = printed json Refused old mid new same (λ j q. inl q) refl p
failed json (fails.NoSuchLiteral path) old mid new same p = printed json Refused old mid new same (λ j q. inl q) refl p
failed json (fails.Device path) old mid new before p = inl tt
failed json fails.Memory old mid new same p = printed json Memory old mid new same (λ j q. inl q) refl p

ended : (r : Result Outcome Failure) (old mid new : Output) → MayGive r old mid → MayRefuse r mid new → MayPrint (ending r) old new
ended (Ok outcome) old mid new gives (inl same) = subst (λ (s : Output). MayPrint outcome old s) (sym same) gives
ended (Ok outcome) old mid new gives (inr same) = subst (λ (s : Output). MayPrint outcome old s) (sym same) gives
ended (Err failure) old mid new prints (inl p) = failed false failure old mid new prints p
ended (Err failure) old mid new prints (inr p) = failed true failure old mid new prints p

-- a task that may print why it failed
pub by_report : (o : Outcome) (r : Result Outcome Failure) (old mid new : Output) → o ≡ ending r → MayGive r old mid → MayRefuse r mid new → MayPrint o old new
by_report o r old mid new is gives p = subst (λ (e : Outcome). MayPrint e old new) (sym is) (ended r old mid new gives p)

-- a batch, in either form
pub by_batch : (json : Bool) (o : Outcome) (old new : Output) → PrintsList json o old new → MayPrint o old new
by_batch true o old new p = inr (inr p)
by_batch false o old new p = inr (inl p)

-- help, the version, or a mistake in the arguments: nothing went to standard output
pub of_usage : (o : Outcome) (s : Output) → (o ≡ Done) ⊎ (o ≡ CommandLine) ⊎ (o ≡ Memory) → MayPrint o s s
of_usage o s which =
    let P : Outcome → Type 0 = λ e. Prints e s s in
    inl (⊎_elim (λ done. subst P (sym done) tt) (⊎_elim (λ line. subst P (sym line) refl) (λ memory. subst P (sym memory) refl)) which)

-- what standard output has at status 1
pub where_refused : (o : Outcome) (old new : Output) → MayPrint o old new → status_of o ≡ 1 → (new ≡ old) ⊎ PrintsShapes old new ⊎ PrintsFilesOrRefusal Refused old new
where_refused Refused old new (inl same) is = inl same
where_refused Refused old new (inr (inl (inl same))) is = inl same
where_refused Refused old new (inr (inl (inr files))) is = inr (inr (inl files))
where_refused Refused old new (inr (inr (inl refusal))) is = inr (inr (inr (inr refusal)))
where_refused Refused old new (inr (inr (inr files))) is = inr (inr (inr (inl files)))
where_refused ShapesDiffer old new (inl text) is = inr (inl text)
where_refused ShapesDiffer old new (inr (inl p)) is = absurd p
where_refused ShapesDiffer old new (inr (inr p)) is = absurd p
where_refused Done old new p is = absurd (omega (arith, is))
where_refused CommandLine old new p is = absurd (omega (arith, is))
where_refused Device old new p is = absurd (omega (arith, is))
where_refused Memory old new p is = absurd (omega (arith, is))
where_refused Differ old new p is = absurd (omega (arith, is))
where_refused Unconfirmed old new p is = absurd (omega (arith, is))

-- at status 2
pub where_unasked : (o : Outcome) (old new : Output) → MayPrint o old new → status_of o ≡ 2 → new ≡ old
where_unasked CommandLine old new (inl same) is = same
where_unasked CommandLine old new (inr (inl same)) is = same
where_unasked CommandLine old new (inr (inr same)) is = same
where_unasked Refused old new p is = absurd (omega (arith, is))
where_unasked ShapesDiffer old new p is = absurd (omega (arith, is))
where_unasked Done old new p is = absurd (omega (arith, is))
where_unasked Device old new p is = absurd (omega (arith, is))
where_unasked Memory old new p is = absurd (omega (arith, is))
where_unasked Differ old new p is = absurd (omega (arith, is))
where_unasked Unconfirmed old new p is = absurd (omega (arith, is))

-- at status 4
pub where_memory_lacks : (o : Outcome) (old new : Output) → MayPrint o old new → status_of o ≡ 4 → (new ≡ old) ⊎ PrintsFilesOrRefusal Memory old new
where_memory_lacks Memory old new (inl same) is = inl same
where_memory_lacks Memory old new (inr (inl (inl same))) is = inl same
where_memory_lacks Memory old new (inr (inl (inr files))) is = inr (inl files)
where_memory_lacks Memory old new (inr (inr (inl refusal))) is = inr (inr (inr refusal))
where_memory_lacks Memory old new (inr (inr (inr files))) is = inr (inr (inl files))
where_memory_lacks CommandLine old new p is = absurd (omega (arith, is))
where_memory_lacks Refused old new p is = absurd (omega (arith, is))
where_memory_lacks ShapesDiffer old new p is = absurd (omega (arith, is))
where_memory_lacks Done old new p is = absurd (omega (arith, is))
where_memory_lacks Device old new p is = absurd (omega (arith, is))
where_memory_lacks Differ old new p is = absurd (omega (arith, is))
where_memory_lacks Unconfirmed old new p is = absurd (omega (arith, is))
