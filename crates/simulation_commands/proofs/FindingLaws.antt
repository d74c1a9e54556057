-- What is printed of two circuits that were compared, by how the run ends.
use Rattle.std.proofs.Common.{◌≡◌, Bool, true, false, IfOk, inl, inr, Result, sym, subst}
use Rattle.counted_io.specs.Output.{Output, WritesAll}
use Rattle.json_reports.specs.Lines.{json_line}
use Rattle.circuit_files.specs.declared.outcome.Outcome.{Outcome}
use Rattle.circuit_files.specs.declared.outcome.Failure.{Failure}
use Rattle.command_endings.specs.Objects.{EndsPrintingObject}
use Rattle.simulation_commands.specs.Comparing.{finding_object, finding_text, outcome_of_finding, printed_finding}
use Rattle.command_endings.specs.Printing.{EndsPrinting, EndsWith, Prints, ending}
use Rattle.simulation_commands.specs.declared.comparison.Finding.{Finding}
use Rattle.simulation_commands.specs.declared.comparison.Finding.TheVariants.{Same, Differ, ShapesDiffer}
use Rattle.command_endings.proofs.PrintingLaws.{ends_with_line, ends_with_object_line, lines_print, object_prints}

line_may_be_printed : (f : Finding) (old new : Output) → WritesAll old new (finding_text f) → Prints (outcome_of_finding f) old new
line_may_be_printed Same old new written = tt
line_may_be_printed (Differ place) old new written = tt
line_may_be_printed ShapesDiffer old new written = inl written

object_may_be_printed : (f : Finding) (old new : Output) → WritesAll old new (json_line (finding_object f)) → Prints (outcome_of_finding f) old new
object_may_be_printed Same old new written = tt
object_may_be_printed (Differ place) old new written = tt
object_may_be_printed ShapesDiffer old new written = inr written

-- so much of its line may have been printed
pub finding_prints : (f : Finding) (old new : Output) (result : Result Outcome Failure)
    → EndsPrinting (outcome_of_finding f) (finding_text f) old new result → Prints (ending result) old new
finding_prints f old new result p = lines_print (outcome_of_finding f) (finding_text f) old new result (line_may_be_printed f old new) p

-- so much of its object may have been printed
pub finding_object_prints : (f : Finding) (old new : Output) (result : Result Outcome Failure)
    → EndsPrintingObject (outcome_of_finding f) (finding_object f) old new result → Prints (ending result) old new
finding_object_prints f old new result p = object_prints (outcome_of_finding f) (finding_object f) old new result (object_may_be_printed f old new) p

-- all of it, in the form that is asked for
abbrev EndsWithFinding : Bool → Finding → Output → Output → Result Outcome Failure → Type 0
EndsWithFinding json f old new result = IfOk result (EndsWith (outcome_of_finding f) (printed_finding json f) old new)

-- as an object
pub object_of_finding : (json : Bool) (f : Finding) (old new : Output) (result : Result Outcome Failure)
    → json ≡ true → EndsPrintingObject (outcome_of_finding f) (finding_object f) old new result → EndsWithFinding json f old new result
object_of_finding json f old new result asked p =
    subst (λ (j : Bool). EndsWithFinding j f old new result) (sym asked) (ends_with_object_line (outcome_of_finding f) (finding_object f) old new result p)

-- in a line
pub line_of_finding : (json : Bool) (f : Finding) (old new : Output) (result : Result Outcome Failure)
    → json ≡ false → EndsPrinting (outcome_of_finding f) (finding_text f) old new result → EndsWithFinding json f old new result
line_of_finding json f old new result unasked p =
    subst (λ (j : Bool). EndsWithFinding j f old new result) (sym unasked) (ends_with_line (outcome_of_finding f) (finding_text f) old new result p)
