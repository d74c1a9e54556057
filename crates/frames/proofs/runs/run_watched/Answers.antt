use Rattle.std.proofs.Common.{[], ◌∷◌, Err, ap}
use Rattle.frame_runs.specs.Given.{circuit_of}
use Rattle.frame_runs.specs.Named.{IsFirstMissingBy, IsFirstNoLatchBy}
use Rattle.frame_runs.specs.Stages.{Cleaning}
use Rattle.frame_runs.specs.declared.errors.RetimeError.{RetimeError}
use Rattle.frame_runs.proofs.HoldLaws.{at-latch, never-latch, never-name}
use Rattle.merging_rounds.proofs.SeenLaws.{seen-before}
use Rattle.frames.proofs.runs.run_watched.Goals as goal

pub finish_plain-requires-after_bounds : goal.finish_plain-requires-after_bounds
finish_plain-requires-after_bounds g c κs within = (circuit_of c.args.given, c.in_ok-begun.ensures.begun)

pub returns-clause-retimed : goal.returns-clause-retimed
returns-clause-retimed g c =
    let run = c.in_ok-run.run' in
    seen-before g.V.FrameWatcher.was_notified c.args.options.now (circuit_of c.args.given) run.retimed run.keep c.args.watcher.now c.enter.new.self c.finish_plain.new.watcher (Cleaning ∷ []) c.enter.ensures
    (c.in_ok-run.ensures (circuit_of c.args.given) c.in_ok-begun.ensures.begun)

pub returns-clause-latches : goal.returns-clause-latches
returns-clause-latches g c = c.in_ok-begun.ensures.latches

pub returns-clause-none_missing : goal.returns-clause-none_missing
returns-clause-none_missing g c = c.in_ok-begun.ensures.none_missing

pub returns-in_err-begun-clause-no_latch : goal.returns-in_err-begun-clause-no_latch
returns-in_err-begun-clause-no_latch g c =
    at-latch c.from_residual.result c.in_err-begun.field-0.0 (IsFirstNoLatchBy c.args.options.now (circuit_of c.args.given)) c.from_residual.ensures.1
    (λ place is. c.in_err-begun.ensures.no_latch place (ap (λ (x : RetimeError). Err x) is))

pub returns-in_err-run-clause-no_latch : goal.returns-in_err-run-clause-no_latch
returns-in_err-run-clause-no_latch g c =
    never-latch c.from_residual-in_err-run.result c.in_err-run.field-0.0 (IsFirstNoLatchBy c.args.options.now (circuit_of c.args.given)) c.from_residual-in_err-run.ensures.1

pub returns-in_err-run-clause-missing : goal.returns-in_err-run-clause-missing
returns-in_err-run-clause-missing g c =
    never-name c.from_residual-in_err-run.result c.in_err-run.field-0.0 (IsFirstMissingBy c.args.options.now (circuit_of c.args.given)) c.from_residual-in_err-run.ensures.1
