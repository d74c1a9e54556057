-- How a command ends that has printed an object, or not.
use Rattle.std.proofs.Common.{inl, inr, Result, Ok, Err, refl, sym, subst}
use Rattle.counted_io.specs.Output.{Output}
use Rattle.serde_json.specs.Data.{Data}
use Rattle.json_reports.specs.Lines.{PrintsLine}
use Rattle.json_reports.specs.declared.printing.PrintError.{PrintError}
use Rattle.json_reports.specs.declared.printing.PrintError.TheVariants as printing
use Rattle.circuit_files.specs.declared.outcome.Outcome.{Outcome}
use Rattle.circuit_files.specs.declared.outcome.Failure.{Failure}
use Rattle.command_endings.specs.Objects.{EndsBy, EndsPrintingObject}

-- all of the object is printed and the command ends so, or it fails by what stopped the printing
pub object_ends : {T : Type 0} (printed : Result T PrintError) (outcome : Outcome) (value : Data) (old new : Output) (result : Result Outcome Failure)
    → EndsBy printed outcome result → PrintsLine value old new printed → EndsPrintingObject outcome value old new result
object_ends (Ok x) outcome value old new result ends prints = subst (λ (r : Result Outcome Failure). EndsPrintingObject outcome value old new r) (sym ends) (refl, prints.0)
object_ends (Err printing.NoMemory) outcome value old new result ends prints =
    subst (λ (r : Result Outcome Failure). EndsPrintingObject outcome value old new r) (sym ends) (inl (refl, prints))
object_ends (Err printing.Device) outcome value old new result ends prints =
    subst (λ (r : Result Outcome Failure). EndsPrintingObject outcome value old new r) (sym ends.1) (inr (refl, prints))
