-- What a command prints, by how it ends.
use Rattle.std.proofs.Common.{ℕ, ◌≡◌, inl, inr, IfOk, List, Result, Ok, Err, refl, sym, subst, Bool, true, false}
use Rattle.counted_io.specs.Output.{Output, WritesAll}
use Rattle.serde_json.specs.Data.{Data}
use Rattle.json_reports.specs.Lines.{json_line}
use Rattle.circuit_files.specs.Outcomes.{outcome_of}
use Rattle.circuit_files.specs.declared.outcome.Outcome.{Outcome}
use Rattle.circuit_files.specs.declared.outcome.Outcome.TheVariants.{Device, Done}
use Rattle.circuit_files.specs.declared.outcome.Failure.{Failure}
use Rattle.circuit_files.specs.declared.outcome.Failure.TheVariants as fails
use Rattle.command_endings.specs.Objects.{EndsPrintingObject, FailsPrintingObject}
use Rattle.command_endings.specs.Printing.{EndsPrinting, EndsWith, Prints, ending, EndsAside}

-- one that failed, and gave standard output nothing
pub failing : (f : Failure) (s : Output) → Prints (outcome_of f) s s
failing (fails.Refused path fault) s = refl
failing (fails.RefusedStimulus path fault) s = refl
failing (fails.RefusedList path fault) s = refl
failing (fails.RefusedCertificates path fault) s = refl
failing (fails.RefusedWitness path fault) s = refl
failing (fails.NoSuchName path name) s = refl
failing (fails.NoSuchLatch path place) s = refl
failing (fails.Misread path latch) s = refl
failing (fails.NotShown path latch) s = refl
failing (fails.TooManyNodes path) s = refl
failing (fails.TooManySteps path) s = refl
failing (fails.NotAMap path) s = refl
failing (fails.NoSuchLiteral path) s = refl
failing (fails.Device path) s = tt
failing fails.Memory s = refl

-- so for a state that hasn't changed
pub failing_after : (f : Failure) (old new : Output) → new ≡ old → Prints (outcome_of f) old new
failing_after f old new same = subst (λ (s : Output). Prints (outcome_of f) old s) (sym same) (failing f old)

-- a device that failed, whatever was given to it
pub of_device : (f : Failure) (old new : Output) → outcome_of f ≡ Device → Prints (outcome_of f) old new
of_device f old new is = subst (λ (e : Outcome). Prints e old new) (sym is) tt

-- an object that wasn't printed: memory ran out before it, or the device failed
pub failing_object : (f : Failure) (value : Data) (old new : Output) → FailsPrintingObject value old new f → Prints (outcome_of f) old new
failing_object f value old new (inl memory) = subst (λ (e : Outcome). Prints e old new) (sym memory.0) memory.1
failing_object f value old new (inr device) = of_device f old new device.0

-- an object that may be printed by a command that ends so
pub object_prints : (outcome : Outcome) (value : Data) (old new : Output) (result : Result Outcome Failure)
    → (WritesAll old new (json_line value) → Prints outcome old new) → EndsPrintingObject outcome value old new result → Prints (ending result) old new
object_prints outcome value old new (Ok ended) may p = subst (λ (e : Outcome). Prints e old new) (sym p.0) (may p.1)
object_prints outcome value old new (Err failure) may p = failing_object failure value old new p

-- lines that may be printed by a command that ends so
pub lines_print : (outcome : Outcome) (text : List ℕ) (old new : Output) (result : Result Outcome Failure)
    → (WritesAll old new text → Prints outcome old new) → EndsPrinting outcome text old new result → Prints (ending result) old new
lines_print outcome text old new (Ok ended) may p = subst (λ (e : Outcome). Prints e old new) (sym p.0) (may p.1)
lines_print outcome text old new (Err failure) may p = of_device failure old new p.0

-- all of the text was printed where the command didn't fail
pub ends_with_line : (outcome : Outcome) (text : List ℕ) (old new : Output) (result : Result Outcome Failure)
    → EndsPrinting outcome text old new result → IfOk result (EndsWith outcome text old new)
ends_with_line outcome text old new (Ok ended) p = record { ends = p.0; prints = p.1 }
ends_with_line outcome text old new (Err failure) p = tt

-- so for an object
pub ends_with_object_line : (outcome : Outcome) (value : Data) (old new : Output) (result : Result Outcome Failure)
    → EndsPrintingObject outcome value old new result → IfOk result (EndsWith outcome (json_line value) old new)
ends_with_object_line outcome value old new (Ok ended) p = record { ends = p.0; prints = p.1 }
ends_with_object_line outcome value old new (Err failure) p = tt

-- what was printed to standard output after nothing else
pub prints_after : (o : Outcome) (old mid new : Output) → mid ≡ old → Prints o mid new → Prints o old new
prints_after o old mid new same p = subst (λ (s : Output). Prints o s new) same p

ends_aside : (old mid new : Output) (result : Result Outcome Failure) → EndsAside Done mid new result → Prints (ending result) old new
ends_aside old mid new result aside = subst (λ (e : Outcome). Prints e old new) (sym aside.ends) tt

-- one that is printed after others, of which some may have taken standard output
pub by_stream : (taken : Bool) (old mid new : Output) (result : Result Outcome Failure)
    → (taken ≡ false → mid ≡ old) → (taken ≡ true → EndsAside Done mid new result) → (taken ≡ false → Prints (ending result) mid new) → Prints (ending result) old new
by_stream true old mid new result before aside prints = ends_aside old mid new result (aside refl)
by_stream false old mid new result before aside prints = prints_after (ending result) old mid new (before refl) (prints refl)
