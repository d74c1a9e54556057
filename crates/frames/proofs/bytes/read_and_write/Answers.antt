use Rattle.std.proofs.Common.{Ok, Err, refl, sym, subst}
use Rattle.aig_binary.proofs.LimitLaws.{reads-within}
use Rattle.std.proofs.lemmas.Result.{IfOk-from_err}
use Rattle.frame_runs.specs.declared.errors.BytesError.TheVariants.{Read}
use Rattle.merging_rounds.specs.declared.rounds.Rounds.{Rounds}
use Rattle.retimed_circuits.specs.RetimingLevels.{KeepsLevels}
use Rattle.frames.specs.Answering.{IsBytesError, IsWritten}
use Rattle.frame_runs.specs.Bounds.{bound_in}
use Rattle.frames.proofs.StopLaws.{at-error, facts_of, stops-answering}
use Rattle.frames.proofs.bytes.read_and_write.Goals as goal

pub returns-in_err-spelt : goal.returns-in_err-spelt
returns-in_err-spelt g c =
    let options = c.args.options.now in
    let old = g.R.CountedRead.input c.args.reader.now in
    let new = g.R.CountedRead.input c.read_by.new.reader in
    let out = g.W.CountedWrite.output c.args.writer.now in
    let result = c.from_residual.result in
    facts_of options old new out out result
    (IfOk-from_err result _ c.from_residual.ensures.0)
    (IfOk-from_err result _ c.from_residual.ensures.0)
    (IfOk-from_err result _ c.from_residual.ensures.0)
    (at-error result (Read c.in_err-spelt.field-0.0) (IsBytesError options old new out out) c.from_residual.ensures.1 (c.in_err-spelt.ensures.err, refl))

pub returns-in-Ok : goal.returns-in-Ok
returns-in-Ok g c =
    let options = c.args.options.now in
    let old = g.R.CountedRead.input c.args.reader.now in
    let new = g.R.CountedRead.input c.read_by.new.reader in
    let before = g.W.CountedWrite.output c.args.writer.now in
    let after = g.W.CountedWrite.output c.run_spelt.new.writer in
    let spelt = c.in_ok-spelt.spelt in
    let read = c.in_ok-spelt.ensures.circuit in
    let written = subst (IsWritten options spelt before after) (sym c.rounds_of.ensures) c.in-Ok.ensures.ok in
    let levels = subst (λ (r : Rounds). KeepsLevels (bound_in options spelt.circuit) spelt.circuit r.circuit) (sym c.rounds_of.ensures) c.in-Ok.ensures.held.levels in
    facts_of options old new before after (Ok c.rounds_of.result) c.in_ok-spelt.ensures.read
    (record { spelt = spelt; read = read; written = written; reads_back = λ left known. written.reads_back (reads-within left spelt.circuit (read.circuit.bytes left known)) })
    (record { spelt = spelt; spells = read; levels = levels })
    tt

pub returns-in-Err : goal.returns-in-Err
returns-in-Err g c =
    let options = c.args.options.now in
    let old = g.R.CountedRead.input c.args.reader.now in
    let new = g.R.CountedRead.input c.read_by.new.reader in
    let before = g.W.CountedWrite.output c.args.writer.now in
    let after = g.W.CountedWrite.output c.run_spelt.new.writer in
    facts_of options old new before after (Err c.in-Err.error) tt tt tt
    (stops-answering options old new before after c.in_ok-spelt.spelt c.in-Err.error c.in_ok-spelt.ensures.read c.in_ok-spelt.ensures.circuit c.in-Err.ensures.err)
