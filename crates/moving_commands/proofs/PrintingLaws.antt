-- How printing a move ends, by the form that is asked for.
use Rattle.std.proofs.Common.{◌≡◌, Bool, true, Result, sym, subst}
use Rattle.counted_io.specs.Output.{Output}
use Rattle.serde_json.specs.Data.{Data}
use Rattle.serde_json.specs.View.{view}
use Rattle.serde_json.specs.declared.value.Value.{Value}
use Rattle.json_reports.specs.Lines.{IsPlain, PrintsLine}
use Rattle.json_reports.specs.declared.printing.PrintError.{PrintError}
use Rattle.command_line.specs.declared.task.Moving.{Moving}
use Rattle.circuit_files.specs.declared.outcome.Outcome.{Outcome}
use Rattle.circuit_files.specs.declared.outcome.Outcome.TheVariants.{Done}
use Rattle.circuit_files.specs.declared.outcome.Failure.{Failure}
use Rattle.command_endings.specs.Objects.{EndsBy, EndsPrintingObject}
use Rattle.command_endings.proofs.EndingLaws.{object_ends}
use Rattle.reports.specs.CircuitCounts.{counts}
use Rattle.reports.specs.declared.statistics.Counts.{Counts}
use Rattle.moving_commands.specs.Printing.{EndsPrintingMoves, moves_data}
use Rattle.moving_commands.specs.declared.answering.Answer.{Answer}

-- an object that was made of a plain value
pub made_ends : {T : Type 0} (printed : Result T PrintError) (object : Value) (value : Data) (old new : Output) (result : Result Outcome Failure)
    → view object ≡ value → IsPlain value → EndsBy printed Done result → (IsPlain (view object) → PrintsLine (view object) old new printed) → EndsPrintingObject Done value old new result
made_ends printed object value old new result same plain ends prints =
    object_ends printed Done value old new result ends (subst (λ (d : Data). PrintsLine d old new printed) same (prints (subst IsPlain (sym same) plain)))

-- an object where it was asked for
pub moves_as_object : (json : Bool) (task : Moving) (answer : Answer) (old new : Output) (result : Result Outcome Failure)
    → json ≡ true → EndsPrintingMoves true task answer old new result → EndsPrintingMoves json task answer old new result
moves_as_object json task answer old new result asked p = subst (λ (j : Bool). EndsPrintingMoves j task answer old new result) (sym asked) p

-- by what the written circuit has
pub moves_counted : (task : Moving) (answer : Answer) (after : Counts) (old new : Output) (result : Result Outcome Failure)
    → after ≡ counts answer.moved.circuit → EndsPrintingObject Done (moves_data task answer after) old new result → EndsPrintingMoves true task answer old new result
moves_counted task answer after old new result is p = subst (λ (c : Counts). EndsPrintingObject Done (moves_data task answer c) old new result) is p
