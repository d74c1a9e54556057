-- What a move gives standard output.
use Rattle.std.proofs.Common.{◌≡◌, Bool, true, false, List, ℕ, Result, Ok, Err, ◌∙◌, subst, sym}
use Rattle.std.specs.Result.{IfOk}
use Rattle.std.proofs.lemmas.Bool.{or_parts}
use Rattle.counted_io.specs.Input.{Input}
use Rattle.counted_io.specs.Output.{Output}
use Rattle.counted_io.specs.Streams.{is_stdout}
use Rattle.command_line.specs.StreamUses.{moving_takes_stdout, writes_stdout}
use Rattle.command_line.specs.declared.task.Moving.{Moving}
use Rattle.circuit_files.specs.declared.outcome.Outcome.{Outcome}
use Rattle.circuit_files.specs.declared.outcome.Outcome.TheVariants.{Done}
use Rattle.circuit_files.specs.declared.outcome.Failure.{Failure}
use Rattle.command_endings.specs.Printing.{EndsAside}
use Rattle.moving_commands.specs.Moving.{AnswersTask, PrintsMoves, WritesMoves}
use Rattle.moving_commands.specs.Printing.{EndsPrintingMoves, SaysMoves}
use Rattle.moving_commands.specs.declared.answering.Answer.{Answer}

-- neither the circuit nor the map went to it
pub kept : (task : Moving) (old mid new : Output) → (is_stdout task.output ≡ false → mid ≡ old) → (writes_stdout task.map ≡ false → new ≡ mid) → moving_takes_stdout task ≡ false → new ≡ old
kept task old mid new first second neither =
    let each = or_parts (is_stdout task.output) (writes_stdout task.map) neither in
    second each.1 ∙ first each.0

stays_quiet : (mid new : Output) (result : Result Outcome Failure) → EndsAside Done mid new result → new ≡ mid
stays_quiet mid new result aside = aside.quiet

module _ (FileGiven : List ℕ → List ℕ → Type 0) (task : Moving) (is_terminal : Bool) (before after : Input) (old mid new : Output) where
  if_printed : (shown said : Output) (answer : Answer) (result : Result Outcome Failure) → AnswersTask task before after answer → WritesMoves FileGiven task answer old mid
      → (moving_takes_stdout task ≡ true → new ≡ mid) → (moving_takes_stdout task ≡ true → is_terminal ≡ false → SaysMoves task answer shown said)
      → (moving_takes_stdout task ≡ false → EndsPrintingMoves task.json task answer mid new result) → IfOk result (PrintsMoves FileGiven task is_terminal before after old new said)
  if_printed shown said answer (Ok ended) answers written quiet says moves = record {
    answer = answer;
    answers = answers;
    between = mid;
    written = written;
    printed = moves;
    quiet = quiet;
    shown = shown;
    aside = says;
  }
  if_printed shown said answer (Err failure) answers written quiet says moves = tt

  -- what was done is printed of the answer that was written
  pub prints_moves : (shown told said : Output) (answer : Answer) (result : Result Outcome Failure) → AnswersTask task before after answer → WritesMoves FileGiven task answer old mid
      → (moving_takes_stdout task ≡ true → EndsAside Done mid new result) → (moving_takes_stdout task ≡ true → SaysMoves task answer shown told)
      → (moving_takes_stdout task ≡ false → EndsPrintingMoves task.json task answer mid new result) → (is_terminal ≡ false → said ≡ told)
      → IfOk result (PrintsMoves FileGiven task is_terminal before after old new said)
  prints_moves shown told said answer result answers written aside says moves still =
      if_printed shown said answer result answers written (λ taken. stays_quiet mid new result (aside taken))
      (λ taken quiet. subst (SaysMoves task answer shown) (sym (still quiet)) (says taken)) moves
