use Rattle.std.proofs.Common.{◌∙◌, subst, sym}
use Rattle.std.proofs.lemmas.Result.{IfOk-weaker}
use Rattle.frame_runs.specs.Following.{IsRetimedFollowed}
use Rattle.merging_rounds.proofs.AgainLaws.{merges-some}
use Rattle.merging_rounds.proofs.StepLaws.{places-among}
use Rattle.merging_rounds.proofs.running.finished.Goals as goal

pub finish-requires-after_bounds : goal.finish-requires-after_bounds
finish-requires-after_bounds g c κs within = let is = c.requires.begun in (is.0, c.args.report.kept_free, is.1, is.2)

pub joined-requires : goal.joined-requires
joined-requires g c =
    let is = c.requires.begun in
    let run = c.in-Ok.run' in
    let before = c.args.report.kept_free in
    places-among c.args.asked.now is.1 before run.retimed run.keep is.2.places (c.in-Ok.ensures.retimed is.0 before is.1 is.2).held

pub returns-in-Ok : goal.returns-in-Ok
returns-in-Ok g c =
    let has_come = g.F.RunFollower.has_come in
    let asked = c.args.asked.now in
    let run = c.in-Ok.run' in
    let before = c.args.report.kept_free in
    IfOk-weaker c.joined.result _ _ (λ next is. λ b d begun.
    let followed = c.in-Ok.ensures.retimed b before d begun in
    record {
      run = run.retimed;
      bound_is = is.3 ∙ c.in-Ok.ensures.bound ∙ begun.bound_is;
      merges = merges-some c.args.begun.retimed run.retimed c.requires.merges c.in-Ok.ensures.merged;
      followed = subst (λ js. IsRetimedFollowed has_come asked b before d run.retimed js next.follower) (sym is.1)
          (subst (λ f. IsRetimedFollowed has_come asked b before d run.retimed run.keep f) (sym is.2) followed);
      is_joined = is.0;
      notified = c.in-Ok.ensures.notified;
    }) c.joined.ensures
