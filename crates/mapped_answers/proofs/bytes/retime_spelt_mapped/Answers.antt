use Rattle.std.proofs.Common.{[], ◌∷◌}
use Rattle.std.proofs.lemmas.Result.{IfOk-from_err}
use Rattle.frame_runs.specs.Stages.{Cleaning, Writing}
use Rattle.frames.proofs.StopLaws.{at-error}
use Rattle.merging_rounds.proofs.SeenLaws.{seen-after}
use Rattle.mapped_answers.specs.Mapping.{IsMappingStop}
use Rattle.mapped_answers.proofs.MakingLaws.{cut_off-answer, makes-nothing, written-answer}
use Rattle.mapped_answers.proofs.bytes.retime_spelt_mapped.Goals as goal

pub returns-in-Ok-clause-ok : goal.returns-in-Ok-clause-ok
returns-in-Ok-clause-ok g c =
    written-answer c.args.options.now c.args.spelt c.in_ok-made.made c.unwrap_or.result (g.W.CountedWrite.output c.args.writer.now) (g.W.CountedWrite.output c.write_in.new.writer)
    c.unwrap_or.ensures c.in_ok-made.ensures.ok c.write_in.ensures.graph c.write_in.ensures.netlist c.in-Ok.ensures.writes.ok

pub returns-in-Err-clause-err : goal.returns-in-Err-clause-err
returns-in-Err-clause-err g c =
    cut_off-answer c.args.options.now c.args.spelt c.in_ok-made.made c.unwrap_or.result (g.W.CountedWrite.output c.args.writer.now) (g.W.CountedWrite.output c.write_in.new.writer)
    c.unwrap_or.ensures c.in_ok-made.ensures.ok c.in-Err.ensures.writes.err

pub returns-in_err-made-clause-err : goal.returns-in_err-made-clause-err
returns-in_err-made-clause-err g c =
    let options = c.args.options.now in
    let spelt = c.args.spelt in
    let out = g.W.CountedWrite.output c.args.writer.now in
    let e = c.in_err-made.field-0.0 in
    at-error c.from_residual.result e (IsMappingStop options spelt out out) c.from_residual.ensures.1 (makes-nothing options spelt out e c.in_err-made.ensures.err)

pub returns-in_err-made-clause-ok : goal.returns-in_err-made-clause-ok
returns-in_err-made-clause-ok g c = IfOk-from_err c.from_residual.result _ c.from_residual.ensures.0

pub returns-in-Ok-clause-seen : goal.returns-in-Ok-clause-seen
returns-in-Ok-clause-seen g c =
    let made = c.in_ok-made.made in
    seen-after g.V.FrameWatcher.was_notified c.args.options.now c.args.spelt.circuit made.rounds made.keep c.args.watcher.now c.made_of-mapped.new.watcher c.enter.new.self (Cleaning ∷ []) (Writing ∷ [])
    c.in_ok-made.ensures.seen c.enter.ensures

pub returns-in_err-made-clause-seen : goal.returns-in_err-made-clause-seen
returns-in_err-made-clause-seen g c = IfOk-from_err c.from_residual.result _ c.from_residual.ensures.0
