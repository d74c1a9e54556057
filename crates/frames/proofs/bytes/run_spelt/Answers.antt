use Rattle.std.proofs.Common.{Err, ap, [], ◌∷◌}
use Rattle.std.specs.Option.{unwrap_or}
use Rattle.std.proofs.lemmas.Result.{IfOk-from_err}
use Rattle.aig_binary.proofs.SpellingLaws.{the_spelling_law}
use Rattle.frame_runs.specs.Bounds.{bound_in}
use Rattle.frame_runs.specs.Named.{holding_in}
use Rattle.frame_runs.specs.Stages.{Cleaning, Writing}
use Rattle.frame_runs.specs.declared.errors.BytesError.TheVariants.{Retime}
use Rattle.frame_runs.specs.declared.errors.RetimeError.{RetimeError}
use Rattle.merging_rounds.proofs.LimitLaws.{runs-limits}
use Rattle.merging_rounds.proofs.SeenLaws.{seen-after}
use Rattle.frames.specs.Answering.{IsStop}
use Rattle.frames.proofs.StopLaws.{at-error, stops-retiming}
use Rattle.frames.proofs.bytes.run_spelt.Goals as goal

pub returns-in-Ok-clause-ok : goal.returns-in-Ok-clause-ok
returns-in-Ok-clause-ok g c =
    let options = c.args.options.now in
    let spelt = c.args.spelt in
    let run = c.in_ok-run.run' in
    let r = run.retimed in
    let of = c.in_ok-run.ensures.retimed.rounds in
    record {
      answer = record { latches = c.in_ok-run.ensures.latches; names = c.in_ok-run.ensures.none_missing; now = run.keep; rounds = of };
      writes = c.in-Ok.ensures.ok;
      reads_back = λ within.
          (the_spelling_law (unwrap_or options.spelling spelt.spelling) r.circuit).read c.in_range.ensures.graph c.in_range.ensures.netlist
          (runs-limits options.merge (bound_in options spelt.circuit) options.choice spelt.circuit (holding_in options) options.max_frames options.certify of.runs r.circuit r.kept_free run.keep of.is.after within);
    }

pub returns-in-Ok-clause-held : goal.returns-in-Ok-clause-held
returns-in-Ok-clause-held g c =
    let run = c.in_ok-run.run' in
    seen-after g.V.FrameWatcher.was_notified c.args.options.now c.args.spelt.circuit run.retimed run.keep c.args.watcher.now c.run_watched.new.watcher c.enter.new.self (Cleaning ∷ []) (Writing ∷ [])
    c.in_ok-run.ensures.retimed c.enter.ensures

pub returns-in_err-run-clause-ok : goal.returns-in_err-run-clause-ok
returns-in_err-run-clause-ok g c = IfOk-from_err c.from_residual.result _ c.from_residual.ensures.0

pub returns-in_err-run-clause-held : goal.returns-in_err-run-clause-held
returns-in_err-run-clause-held g c = IfOk-from_err c.from_residual.result _ c.from_residual.ensures.0

pub returns-in_err-run-clause-err : goal.returns-in_err-run-clause-err
returns-in_err-run-clause-err g c =
    let options = c.args.options.now in
    let spelt = c.args.spelt in
    let out = g.W.CountedWrite.output c.args.writer.now in
    let e = c.in_err-run.field-0.0 in
    at-error c.from_residual.result (Retime e) (IsStop options spelt out out) c.from_residual.ensures.1
    (stops-retiming options spelt out e (λ place is. c.in_err-run.ensures.missing place (ap (λ (x : RetimeError). Err x) is))
    (λ place is. c.in_err-run.ensures.no_latch place (ap (λ (x : RetimeError). Err x) is)))

pub returns-in-Err-clause-err : goal.returns-in-Err-clause-err
returns-in-Err-clause-err g c =
    let run = c.in_ok-run.ensures in
    let end = c.in_ok-run.run' in
    record {
      rounds = end.retimed;
      answer = record { latches = run.latches; names = run.none_missing; now = end.keep; rounds = run.retimed.rounds };
      writes = c.in-Err.ensures.err;
    }
