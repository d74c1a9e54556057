-- What a run may have given standard output, by how it ended.
use Rattle.std.specs.Prelude.{ℕ, ◌⊎◌, Bool, true, false, List, Result, Ok, Err}
use Rattle.counted_io.specs.Input.{Input}
use Rattle.counted_io.specs.Output.{Output, WritesAll}
use Rattle.reports.specs.Differences.{shapes_text}
use Rattle.json_reports.specs.Differences.{shapes_data}
use Rattle.json_reports.specs.Lines.{json_line}
use Rattle.command_line.specs.declared.task.Task.{Task}
use Rattle.command_line.specs.declared.task.Task.TheVariants.{Retime, Move, Batch, Stat, Convert, Sim, Same, Verify, Check, Miter, Product, Lift, Dot, Witness, Explain}
use Rattle.circuit_files.specs.Codes.{status_of}
use Rattle.circuit_files.specs.Outcomes.{outcome_of}
use Rattle.circuit_files.specs.declared.outcome.Outcome.{Outcome}
use Rattle.circuit_files.specs.declared.outcome.Failure.{Failure}
use Rattle.command_endings.specs.Objects.{PrintsRefusal}
use Rattle.simulation_commands.specs.Comparing.{PrintsFinding}
use Rattle.map_commands.specs.Checking.{PrintsCheck}
use Rattle.map_commands.specs.Products.{PrintsAsked}
use Rattle.map_commands.specs.Lifted.{PrintsLift}
use Rattle.moving_commands.specs.Moving.{PrintsMoves}
use Rattle.commands.specs.Drawings.{PrintsPicture}
use Rattle.simulation_commands.specs.Verdicts.{PrintsVerdict}
use Rattle.commands.specs.Pipes.{Converts, IsPipe, PrintsRetiming, WritesPipe}
use Rattle.command_endings.specs.Printing.{Prints}
use Rattle.simulation_commands.specs.Simulating.{PrintsTrace}
use Rattle.commands.specs.Statistics.{PrintsStatistics}
use Rattle.commands.specs.Verifying.{PrintsAuditOf}
use Rattle.fretime.specs.Batches.{PrintsFiles, PrintsList}
use Rattle.fretime.specs.Explaining.{Explains}

abbrev pub MayPrint : Outcome → Output → Output → Type 0
MayPrint outcome old new = Prints outcome old new ⊎ PrintsList false outcome old new ⊎ PrintsList true outcome old new

-- by how a task ended; one that failed hasn't printed why yet
abbrev pub MayGive : Result Outcome Failure → Output → Output → Type 0
MayGive (Ok outcome) old new = MayPrint outcome old new
MayGive (Err failure) old new = Prints (outcome_of failure) old new

-- What a task gives standard output and its files if it didn't fail. It is by what it means that a
-- file was given a text, and whether standard error is a terminal. It is also by what standard
-- input had and has left, and what standard error was given in the end.
abbrev pub Does : (List ℕ → List ℕ → Type 0) → Task → Bool → Input → Input → Output → Output → Output → Outcome → Type 0
Does FileGiven (Retime retiming) is_terminal before after old new said ended = PrintsRetiming FileGiven retiming is_terminal before old new said (Ok ended)
    × (IsPipe retiming → WritesPipe retiming before old new)
Does FileGiven (Move moving) is_terminal before after old new said ended = PrintsMoves FileGiven moving is_terminal before after old new said ended
Does FileGiven (Batch batch) is_terminal before after old new said ended = PrintsList batch.json ended old new
Does FileGiven (Stat counting) is_terminal before after old new said ended = PrintsStatistics counting before after old new ended
Does FileGiven (Convert input output spelling) is_terminal before after old new said ended = Converts FileGiven spelling input output before old new
Does FileGiven (Sim simulation) is_terminal before after old new said ended = PrintsTrace FileGiven simulation before after old new ended
Does FileGiven (Same comparison) is_terminal before after old new said ended = PrintsFinding comparison before after old new ended
Does FileGiven (Verify verification) is_terminal before after old new said ended = PrintsAuditOf verification before after old new ended
Does FileGiven (Check checking) is_terminal before after old new said ended = PrintsCheck checking before after old new ended
Does FileGiven (Miter asking) is_terminal before after old new said ended = PrintsAsked FileGiven asking.certificate asking before after old new ended
Does FileGiven (Product asking) is_terminal before after old new said ended = PrintsAsked FileGiven asking.certificate asking before after old new ended
Does FileGiven (Lift lifting) is_terminal before after old new said ended = PrintsLift FileGiven lifting before after old new ended
Does FileGiven (Dot drawing) is_terminal before after old new said ended = PrintsPicture FileGiven drawing before after old new ended
Does FileGiven (Witness carrying) is_terminal before after old new said ended = PrintsVerdict carrying before after old new ended
Does FileGiven (Explain name) is_terminal before after old new said ended = Explains name.now old new ended

-- that two circuits can't be compared, in a line or as an object
abbrev pub PrintsShapes : Output → Output → Type 0
PrintsShapes old new = WritesAll old new shapes_text ⊎ WritesAll old new (json_line shapes_data)

-- the files of a batch, in lines or as an object, or a refusal
abbrev pub PrintsFilesOrRefusal : Outcome → Output → Output → Type 0
PrintsFilesOrRefusal ended old new = PrintsFiles false ended old new ⊎ PrintsFiles true ended old new ⊎ PrintsRefusal (status_of ended) old new
