use Rattle.std.proofs.Common.{Err, ap, [], ◌∷◌}
use Rattle.frame_runs.specs.declared.errors.BytesError.TheVariants.{Retime}
use Rattle.frame_runs.specs.declared.errors.RetimeError.{RetimeError}
use Rattle.frame_runs.specs.Stages.{Cleaning}
use Rattle.frames.proofs.StopLaws.{at-error}
use Rattle.merging_rounds.proofs.SeenLaws.{seen-before}
use Rattle.mapped_answers.specs.declared.errors.AnswerError.TheVariants.{Bytes}
use Rattle.mapped_answers.specs.Mapping.{IsMakingError, of_follow_error}
use Rattle.mapped_answers.proofs.MakingLaws.{unheld, unmapped}
use Rattle.mapped_answers.proofs.making.made_of.Goals as goal

pub made_kept-requires-after_bounds : goal.made_kept-requires-after_bounds
made_kept-requires-after_bounds g c κs within = c.in_ok-keep.ensures.keep

pub returns-clause-ok : goal.returns-clause-ok
returns-clause-ok g c =
    record { latches = c.in_ok-keep.ensures.latches; names = c.in_ok-keep.ensures.none_missing; rounds = c.in_ok-made.ensures.seen.rounds; mapped = c.in_ok-made.ensures.mapped }

pub returns-clause-seen : goal.returns-clause-seen
returns-clause-seen g c =
    let made = c.in_ok-made.made in
    seen-before g.V.FrameWatcher.was_notified c.args.options.now c.args.circuit.now made.rounds made.keep c.args.watcher.now c.enter.new.self c.made_kept.new.watcher (Cleaning ∷ []) c.enter.ensures
    c.in_ok-made.ensures.seen

pub returns-in_err-keep-clause-err : goal.returns-in_err-keep-clause-err
returns-in_err-keep-clause-err g c =
    let options = c.args.options.now in
    let circuit = c.args.circuit.now in
    let e = c.in_err-keep.field-0.0 in
    at-error c.from_residual.result (Bytes (Retime e)) (IsMakingError options circuit) c.from_residual.ensures.1
    (unheld options circuit e (λ place is. c.in_err-keep.ensures.missing place (ap (λ (x : RetimeError). Err x) is)) (λ place is. c.in_err-keep.ensures.no_latch place (ap (λ (x : RetimeError). Err x) is)))

pub returns-in_err-made-clause-err : goal.returns-in_err-made-clause-err
returns-in_err-made-clause-err g c =
    let options = c.args.options.now in
    let circuit = c.args.circuit.now in
    let e = c.in_err-made.field-0.0 in
    at-error c.from_residual-in_err-made.result (of_follow_error e) (IsMakingError options circuit) c.from_residual-in_err-made.ensures.1 (unmapped options circuit e)
