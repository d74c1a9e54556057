use Rattle.std.proofs.Common.{Some, sym, ap, ◌∙◌, subst}
use Rattle.batch_pool.specs.declared.job.Outcome.{Outcome}
use Rattle.batch_pool.specs.Outcomes.{IsOutcome}
use Rattle.frames.proofs.StopLaws.{error_of}
use Rattle.batch_pool.proofs.FileOutcomeLaws.{an_answer, no_answer}
use Rattle.batch_pool.proofs.job.retime_file.Goals as goal

pub returns-in-Ok : goal.returns-in-Ok
returns-in-Ok g c =
    let O : Outcome → Type 0 = IsOutcome c.args.bytes.now c.args.options.now in
    let known = ap (λ b. Some b.now) c.new-reader.ensures.inner in
    let empty = ap (λ v. Some v.items) c.new-writer.ensures.inner ∙ ap Some c.new.ensures.items in
    let full = ap (λ v. Some v.items) (sym c.into_inner.ensures) in
    subst O (sym c.done.ensures) (an_answer c.args.bytes.now c.into_inner.result.items c.args.options.now c.in-Ok.rounds _ _ _ known empty full c.in-Ok.ensures.answer)

pub returns-in-Err : goal.returns-in-Err
returns-in-Err g c =
    let O : Outcome → Type 0 = IsOutcome c.args.bytes.now c.args.options.now in
    let known = ap (λ b. Some b.now) c.new-reader.ensures.inner in
    let facts = c.in-Err.ensures in
    let why = error_of c.args.options.now _ _ _ _ c.in-Err.error (record {
      read = facts.read;
      circuit = facts.circuit;
      answer = tt;
      levels = tt;
      unread = facts.unread;
      missing = facts.missing;
      no_latch = facts.no_latch;
      unwritten = facts.unwritten;
      cut_off = facts.cut_off;
    }) in
    subst O (sym c.of_error.ensures) (no_answer c.args.bytes.now c.args.options.now c.in-Err.error _ _ _ _ known why)
