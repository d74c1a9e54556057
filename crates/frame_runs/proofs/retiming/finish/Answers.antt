use Rattle.std.proofs.Common.{◌≡◌, ◌∙◌, List, ℕ, sym, subst}
use Rattle.retimed_circuits.specs.declared.report.Retimed.{Retimed}
use Rattle.frame_runs.specs.Following.{IsRetimedFollowed}
use Rattle.frame_runs.proofs.FrameLaws.{with_certificates}
use Rattle.frame_runs.proofs.BeginningLaws.{begun-ready, finished, merged-same}
use Rattle.frame_runs.specs.Stages.{looks_of}
use Rattle.frame_runs.proofs.StageLaws.{notifies-same, same-looks}
use Rattle.frame_runs.proofs.retiming.finish.Goals as goal

pub all_frames-requires-clause-begun : goal.all_frames-requires-clause-begun
all_frames-requires-clause-begun g c κs within =
    let is = c.requires in (is.0, begun-ready g.F.RunFollower.has_come c.args.options.now is.0 is.1 is.2 c.args.start is.3)

pub all_frames-requires-clause-wanted : goal.all_frames-requires-clause-wanted
all_frames-requires-clause-wanted g c κs within = c.new-records.ensures.certify

pub all_frames-requires-clause-none_yet : goal.all_frames-requires-clause-none_yet
all_frames-requires-clause-none_yet g c κs within = c.new-records.ensures.certificates

pub returns-in-Ok-clause-retimed : goal.returns-in-Ok-clause-retimed
returns-in-Ok-clause-retimed g c = λ b before d begun.
    let has_come = g.F.RunFollower.has_come in
    let options = c.args.options.now in
    let run = c.in-Ok.run' in
    let records = c.all_frames.new.records in
    let whole = c.certified.ensures in
    let s : Retimed = with_certificates run.retimed records in
    let same : c.certified.result.retimed ≡ s = λ i. record {
      circuit = whole.circuit i;
      kept_free = whole.kept_free i;
      read_latches = whole.read_latches i;
      merged = whole.merged i;
      frames = whole.frames i;
      certificates = whole.certificates i;
    } in
    let is : IsRetimedFollowed has_come options b before d s run.keep run.follower = finished has_come options b before d c.args.start run records c.in-Ok.ensures.bound (c.in-Ok.ensures.run b) begun in
    subst (λ (x : Retimed). IsRetimedFollowed has_come options b before d x c.certified.result.keep c.certified.result.follower) (sym same)
    (subst (λ (js : List ℕ). IsRetimedFollowed has_come options b before d s js c.certified.result.follower) (sym whole.keep)
    (subst (λ f. IsRetimedFollowed has_come options b before d s run.keep f) (sym whole.follower) is))

pub returns-in-Ok-clause-merged : goal.returns-in-Ok-clause-merged
returns-in-Ok-clause-merged g c =
    let is = c.requires in
    c.certified.ensures.merged ∙ merged-same g.F.RunFollower.has_come c.args.options.now is.0 is.1 is.2 c.args.start c.in-Ok.run' c.all_frames.new.records (c.in-Ok.ensures.run is.0) is.3

pub returns-in-Ok-clause-notified : goal.returns-in-Ok-clause-notified
returns-in-Ok-clause-notified g c =
    let whole = c.certified.ensures in
    let was_notified = g.V.FrameWatcher.was_notified in
    let run = c.in-Ok.run'.retimed in
    let limit = c.args.options.now.max_frames in
    let counted = c.count_networks.new.self in
    same-looks was_notified c.args.watcher.now counted limit run c.certified.result.retimed whole.frames whole.circuit
    (notifies-same was_notified c.args.watcher.now c.all_frames.new.watcher counted (looks_of limit run) c.in-Ok.ensures.notified c.count_networks.ensures)
