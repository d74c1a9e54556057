use Rattle.std.proofs.Common.{Option, refl, subst}
use Rattle.std.specs.Option.{MatchOption}
use Rattle.std.proofs.lemmas.Result.{IfOk-from_err}
use Rattle.frame_runs.specs.declared.helping.Helping.{Helping}
use Rattle.frame_runs.specs.Found.{Helps}
use Rattle.frame_runs.specs.Retiming.{NoneHelpsBy}
use Rattle.frame_runs.proofs.CertificateLaws.{still-added}
use Rattle.frame_runs.proofs.LookLaws.{helps-saves}
use Rattle.frame_runs.proofs.StageLaws.{notifies-nothing}
use Rattle.frame_runs.proofs.frame.next_frame.Goals as goal

pub moved_over-requires-clause-normalised : goal.moved_over-requires-clause-normalised
moved_over-requires-clause-normalised g c = c.requires.normalised

pub moved_over-requires-clause-in_range : goal.moved_over-requires-clause-in_range
moved_over-requires-clause-in_range g c = c.requires.in_range

pub moved_over-requires-clause-there : goal.moved_over-requires-clause-there
moved_over-requires-clause-there g c = c.requires.there

pub moved_over-requires-clause-saves : goal.moved_over-requires-clause-saves
moved_over-requires-clause-saves g c =
    let options = c.args.options.now in
    let before = c.args.run.now.retimed.circuit in
    let held = c.args.run.now.keep in
    let P : Option Helping → Type 0 = λ found. MatchOption found (NoneHelpsBy options c.args.run.now.bound held before) (Helps options c.args.run.now.bound held before) in
    let helps : Helps options c.args.run.now.bound held before c.in-Some.found = subst P c.in-Some.is c.in_ok-found.ensures.found in
    helps-saves options held before c.args.run.now.bound c.in-Some.found.set helps.set

pub returns-in_ok-records-in-Some-clause-found : goal.returns-in_ok-records-in-Some-clause-found
returns-in_ok-records-in-Some-clause-found g c =
    let options = c.args.options.now in
    let before = c.args.run.now.retimed.circuit in
    let held = c.args.run.now.keep in
    let P : Option Helping → Type 0 = λ found. MatchOption found (NoneHelpsBy options c.args.run.now.bound held before) (Helps options c.args.run.now.bound held before) in
    let helps : Helps options c.args.run.now.bound held before c.in-Some.found = subst P c.in-Some.is c.in_ok-found.ensures.found in
    let d = c.in_ok-cleaned-in-Some.ensures in
    record {
      moves = record {
        set = helps.set;
        cleaned = d.moved.cleaned;
        moves = record { set = c.in-Some.found.set; helps = helps.set; cleaned = d.moved.cleaned; reported = helps.report };
        keeps = d.moved.keeps;
      };
      comes = d.comes;
    }

pub returns-in-None-clause-found : goal.returns-in-None-clause-found
returns-in-None-clause-found g c =
    let options = c.args.options.now in
    let before = c.args.run.now.retimed.circuit in
    let held = c.args.run.now.keep in
    let P : Option Helping → Type 0 = λ found. MatchOption found (NoneHelpsBy options c.args.run.now.bound held before) (Helps options c.args.run.now.bound held before) in
    (subst P c.in-None.is c.in_ok-found.ensures.found, refl)

pub returns-in_err-found-clause-found : goal.returns-in_err-found-clause-found
returns-in_err-found-clause-found g c = IfOk-from_err c.from_residual.result _ c.from_residual.ensures.0

pub returns-in_err-found-clause-certificate : goal.returns-in_err-found-clause-certificate
returns-in_err-found-clause-certificate g c = IfOk-from_err c.from_residual.result _ c.from_residual.ensures.0

pub returns-in_err-found-clause-notified : goal.returns-in_err-found-clause-notified
returns-in_err-found-clause-notified g c = IfOk-from_err c.from_residual.result _ c.from_residual.ensures.0

pub returns-in_err-cleaned-in-Some-clause-found : goal.returns-in_err-cleaned-in-Some-clause-found
returns-in_err-cleaned-in-Some-clause-found g c = IfOk-from_err c.from_residual-in_err-cleaned-in-Some.result _ c.from_residual-in_err-cleaned-in-Some.ensures.0

pub returns-in_err-cleaned-in-Some-clause-certificate : goal.returns-in_err-cleaned-in-Some-clause-certificate
returns-in_err-cleaned-in-Some-clause-certificate g c = IfOk-from_err c.from_residual-in_err-cleaned-in-Some.result _ c.from_residual-in_err-cleaned-in-Some.ensures.0

pub returns-in_err-cleaned-in-Some-clause-notified : goal.returns-in_err-cleaned-in-Some-clause-notified
returns-in_err-cleaned-in-Some-clause-notified g c = IfOk-from_err c.from_residual-in_err-cleaned-in-Some.result _ c.from_residual-in_err-cleaned-in-Some.ensures.0

pub returns-in-None-clause-certificate : goal.returns-in-None-clause-certificate
returns-in-None-clause-certificate g c = c.in_ok-found.ensures.adds

-- the tables and flows that are carried on are none of the certificates' business
pub returns-in_ok-records-in-Some-clause-certificate : goal.returns-in_ok-records-in-Some-clause-certificate
returns-in_ok-records-in-Some-clause-certificate g c =
    let run = c.args.run.now in
    let added = still-added c.args.options.now run.bound run.keep run.retimed.circuit c.args.records.now c.helping_set.new.records c.take_tables-tables.new.self c.keep_tables.new.self
    c.in_ok-found.ensures.adds c.take_tables-tables.ensures c.keep_tables.ensures in
    record { certify = added.certify; added = added.added; none = added.none }

pub moved_over-requires-clause-prepared : goal.moved_over-requires-clause-prepared
moved_over-requires-clause-prepared g c =
    let options = c.args.options.now in
    let before = c.args.run.now.retimed.circuit in
    let held = c.args.run.now.keep in
    let P : Option Helping → Type 0 = λ found. MatchOption found (NoneHelpsBy options c.args.run.now.bound held before) (Helps options c.args.run.now.bound held before) in
    let helps : Helps options c.args.run.now.bound held before c.in-Some.found = subst P c.in-Some.is c.in_ok-found.ensures.found in
    helps.prepared

pub returns-in-None-clause-notified : goal.returns-in-None-clause-notified
returns-in-None-clause-notified g c = notifies-nothing g.V.FrameWatcher.was_notified c.args.watcher.now

pub returns-in_ok-records-in-Some-clause-notified : goal.returns-in_ok-records-in-Some-clause-notified
returns-in_ok-records-in-Some-clause-notified g c = c.enter.ensures

pub returns-in_err-found-clause-same : goal.returns-in_err-found-clause-same
returns-in_err-found-clause-same g c = IfOk-from_err c.from_residual.result _ c.from_residual.ensures.0

pub returns-in_err-cleaned-in-Some-clause-same : goal.returns-in_err-cleaned-in-Some-clause-same
returns-in_err-cleaned-in-Some-clause-same g c = IfOk-from_err c.from_residual-in_err-cleaned-in-Some.result _ c.from_residual-in_err-cleaned-in-Some.ensures.0

pub returns-in_err-found-clause-bound : goal.returns-in_err-found-clause-bound
returns-in_err-found-clause-bound g c = IfOk-from_err c.from_residual.result _ c.from_residual.ensures.0

pub returns-in_err-cleaned-in-Some-clause-bound : goal.returns-in_err-cleaned-in-Some-clause-bound
returns-in_err-cleaned-in-Some-clause-bound g c = IfOk-from_err c.from_residual-in_err-cleaned-in-Some.result _ c.from_residual-in_err-cleaned-in-Some.ensures.0

pub returns-in_err-found-clause-keep : goal.returns-in_err-found-clause-keep
returns-in_err-found-clause-keep g c = IfOk-from_err c.from_residual.result _ c.from_residual.ensures.0

pub returns-in_err-cleaned-in-Some-clause-keep : goal.returns-in_err-cleaned-in-Some-clause-keep
returns-in_err-cleaned-in-Some-clause-keep g c = IfOk-from_err c.from_residual-in_err-cleaned-in-Some.result _ c.from_residual-in_err-cleaned-in-Some.ensures.0
