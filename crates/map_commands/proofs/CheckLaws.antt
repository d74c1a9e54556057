-- What is printed of a map that was checked, by how the run ends.
use Rattle.std.proofs.Common.{inl, Result}
use Rattle.counted_io.specs.Output.{Output, WritesAll}
use Rattle.circuit_files.specs.declared.outcome.Outcome.{Outcome}
use Rattle.circuit_files.specs.declared.outcome.Failure.{Failure}
use Rattle.command_endings.specs.Printing.{EndsPrinting, Prints, ending}
use Rattle.command_endings.proofs.PrintingLaws.{lines_print}
use Rattle.map_commands.specs.Checking.{outcome_of_check, check_text}
use Rattle.map_commands.specs.declared.check.Verdict.{Verdict}
use Rattle.map_commands.specs.declared.check.Verdict.TheVariants.{Retiming, Equal, NotShown, Open, ShapesDiffer}

verdict_may_be_printed : (verdict : Verdict) (old new : Output) → WritesAll old new (check_text verdict) → Prints (outcome_of_check verdict) old new
verdict_may_be_printed Retiming old new written = tt
verdict_may_be_printed Equal old new written = tt
verdict_may_be_printed (NotShown obligation) old new written = tt
verdict_may_be_printed (Open obligation shown all) old new written = tt
verdict_may_be_printed ShapesDiffer old new written = inl written

-- a run that prints a verdict, or fails at that, gives standard output what a run that ends so may
pub verdict_prints : (verdict : Verdict) (old new : Output) (result : Result Outcome Failure)
    → EndsPrinting (outcome_of_check verdict) (check_text verdict) old new result → Prints (ending result) old new
verdict_prints verdict old new result p = lines_print (outcome_of_check verdict) (check_text verdict) old new result (verdict_may_be_printed verdict old new) p
