use Rattle.std.proofs.Common.{ℕ, Ok, List, sym, ap, ◌∙◌}
use Rattle.std.proofs.lemmas.Result.{err_from_is_err_and}
use Rattle.witnesses.specs.declared.witness.Digit.{Digit}
use Rattle.witnesses.specs.Reading.{steps_from}
use Rattle.witnesses.specs.Statements.{left}
use Rattle.file_words.proofs.AnsweringLaws.{Fails-with}
use Rattle.witnesses.proofs.ReadingLaws.{steps_missing, steps_end, step_taken, step_fails}
use Rattle.witnesses.proofs.reading.step_lines.Goals as goal

pub returns-then-is_word-clause-reads : goal.returns-then-is_word-clause-reads
returns-then-is_word-clause-reads c =
    let lines = c.loop-line.lines in
    steps_end c.args.width lines.end _ c.loop-line.steps.items (left lines) c.loop-line.invariant.leads _ _ _ c.in-Some.ensures.lines (sym c.is_word.ensures ∙ c.if-is_word.true)
    ∙ ap (λ (steps : List (List Digit)). Ok (steps, left c.following.new.lines)) (sym c.from_vec.ensures)

pub loop-line-preserved : goal.loop-line-preserved
loop-line-preserved c =
    let lines = c.loop-line.lines in
    record {
      end = c.in-Some.ensures.end ∙ c.loop-line.invariant.end;
      leads = step_taken c.args.width lines.end _ c.loop-line.steps.items (left lines) c.loop-line.invariant.leads _ _ _ _ c.in-Some.ensures.lines
          (sym c.is_word.ensures ∙ c.if-is_word.false) c.in_ok-push_step.ensures
          ∙ ap (λ (end : ℕ). steps_from c.args.width end c.push_step.new.steps.items (left c.following.new.lines)) (sym c.in-Some.ensures.end);
    }

pub returns-in_err-push_step-clause-reads : goal.returns-in_err-push_step-clause-reads
returns-in_err-push_step-clause-reads c =
    let lines = c.loop-line.lines in
    let p = err_from_is_err_and c.from_residual.result c.from_residual.ensures.1 in
    rw (p.1, p.2) (step_fails c.args.width lines.end _ c.loop-line.steps.items (left lines) c.loop-line.invariant.leads _ _ _ _ c.in-Some.ensures.lines
    (sym c.is_word.ensures ∙ c.if-is_word.false) c.in_err-push_step.ensures)

pub returns-clause-reads : goal.returns-clause-reads
returns-clause-reads c =
    let lines = c.loop-line.lines in
    rw (c.truncated.ensures, c.in_default.ensures.end) (Fails-with _ _ (steps_missing c.args.width lines.end _ c.loop-line.steps.items (left lines) c.loop-line.invariant.leads c.in_default.ensures.lines))
