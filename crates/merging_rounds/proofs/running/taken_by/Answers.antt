use Rattle.std.proofs.Common.{ℕ, ◌-◌, ◌≡◌, ◌∙◌, [], ◌∷◌, List, ap, length, subst}
use Rattle.frame_runs.specs.Following.{IsRetimedFollowed}
use Rattle.frame_runs.specs.Stages.{Cleaning, Notifies, looks_of, stages_of}
use Rattle.frame_runs.proofs.StageLaws.{notifies-then}
use Rattle.retimed_circuits.specs.declared.report.FrameReport.{FrameReport}
use Rattle.merging_rounds.specs.Rounds.{frames_of}
use Rattle.merging_rounds.specs.Steps.{IsBegunAgain}
use Rattle.merging_rounds.specs.declared.running.BegunAgain.{BegunAgain}
use Rattle.merging_rounds.proofs.StepLaws.{next-followed}
use Rattle.merging_rounds.proofs.running.taken_by.Goals as goal

pub returns-in-Ok : goal.returns-in-Ok
returns-in-Ok g c = λ options d runs is.
    let has_come = g.F.RunFollower.has_come in
    let was_notified = g.V.FrameWatcher.was_notified in
    let state = c.args.state in
    let r = state.retimed in
    let asked = c.args.asked.now in
    let report = c.in-Ok-Merges.report in
    let next = c.in-Ok.next in
    let P : BegunAgain g.row.F.Denot → Type 0 = λ x. IsBegunAgain has_come options d runs state asked x in
    let again = subst P c.in-Ok-Merges.field-0-is (c.in-Ok-Merges.ensures options d runs is) in
    let done = c.in-Ok.ensures d r.circuit again.begins in
    let followed = subst (λ places. IsRetimedFollowed has_come asked d places r.circuit done.run next.keep next.follower) again.reported.kept_free done.followed in
    let left : asked.max_frames ≡ options.max_frames - length (frames_of runs) =
    is.asked_are.frames ∙ ap (λ (xs : List FrameReport). options.max_frames - length xs) is.followed.is.frames in
    record {
      run = done.run;
      followed = next-followed has_come options d runs state next asked report done.run is.followed is.guesses done.merges is.asked_are done.bound_is followed again.reported done.is_joined;
      notified = subst (λ (n : ℕ). Notifies was_notified c.args.watcher.now c.finished.new.watcher (stages_of n done.run)) left
          (notifies-then was_notified c.args.watcher.now c.enter.new.self c.finished.new.watcher (Cleaning ∷ []) (looks_of asked.max_frames done.run) c.enter.ensures done.notified);
    }
