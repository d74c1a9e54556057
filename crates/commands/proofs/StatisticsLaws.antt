-- What is printed of what a circuit has, in lines or as an object.
use Rattle.std.proofs.Common.{◌≡◌, Bool, true, false, IfOk, Option, Result, sym, subst}
use Rattle.aig_graph.specs.Circuits.{Netlist}
use Rattle.reports.specs.CircuitCounts.{statistics}
use Rattle.reports.specs.declared.statistics.Statistics.{Statistics}
use Rattle.counted_io.specs.Output.{Output}
use Rattle.merged_circuits.specs.declared.counts.MergeCounts.{MergeCounts}
use Rattle.reports.specs.Counts.{counts_text}
use Rattle.json_reports.specs.Counts.{statistics_data}
use Rattle.circuit_files.specs.declared.outcome.Outcome.{Outcome}
use Rattle.circuit_files.specs.declared.outcome.Outcome.TheVariants.{Done}
use Rattle.circuit_files.specs.declared.outcome.Failure.{Failure}
use Rattle.command_endings.specs.Objects.{EndsPrintingObject}
use Rattle.command_endings.specs.Printing.{EndsPrinting, EndsWith}
use Rattle.commands.specs.Statistics.{statistics_text}
use Rattle.command_endings.proofs.PrintingLaws.{ends_with_line, ends_with_object_line}

-- all of it, in the form that is asked for
abbrev EndsCounted : Bool → Netlist → Option MergeCounts → Output → Output → Result Outcome Failure → Type 0
EndsCounted json c merged old new result = IfOk result (EndsWith Done (statistics_text json c merged) old new)

-- as an object
pub object_of_counts : (json : Bool) (c : Netlist) (s : Statistics) (merged : Option MergeCounts) (old new : Output) (result : Result Outcome Failure)
    → json ≡ true → s ≡ statistics c → EndsPrintingObject Done (statistics_data s merged) old new result → EndsCounted json c merged old new result
object_of_counts json c s merged old new result asked is p =
    let counted : EndsPrintingObject Done (statistics_data (statistics c) merged) old new result =
    subst (λ (t : Statistics). EndsPrintingObject Done (statistics_data t merged) old new result) is p in
    subst (λ (j : Bool). EndsCounted j c merged old new result) (sym asked) (ends_with_object_line Done (statistics_data (statistics c) merged) old new result counted)

-- in lines
pub lines_of_counts : (json : Bool) (c : Netlist) (s : Statistics) (merged : Option MergeCounts) (old new : Output) (result : Result Outcome Failure)
    → json ≡ false → s ≡ statistics c → EndsPrinting Done (counts_text s merged) old new result → EndsCounted json c merged old new result
lines_of_counts json c s merged old new result unasked is p =
    let counted : EndsPrinting Done (counts_text (statistics c) merged) old new result =
    subst (λ (t : Statistics). EndsPrinting Done (counts_text t merged) old new result) is p in
    subst (λ (j : Bool). EndsCounted j c merged old new result) (sym unasked) (ends_with_line Done (counts_text (statistics c) merged) old new result counted)
