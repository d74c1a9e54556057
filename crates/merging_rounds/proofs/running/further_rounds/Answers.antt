use Rattle.std.proofs.Common.{◌-◌, List, [], ◌∷◌, ◌++◌, true, false, append-nil, append_assoc, length, subst, sym}
use Rattle.retimed_circuits.specs.declared.report.Retimed.{Retimed}
use Rattle.merging_rounds.specs.Following.{AreRoundsFollowed}
use Rattle.merging_rounds.specs.Rounds.{frames_of}
use Rattle.merging_rounds.specs.Steps.{IsFurther}
use Rattle.merging_rounds.specs.declared.running.Further.{Further}
use Rattle.merging_rounds.proofs.StageLaws.{notified-last, notified-more, notified-none}
use Rattle.merging_rounds.proofs.running.further_rounds.Goals as goal

pub loop-init : goal.loop-init
loop-init g c = λ d runs is.
    let P : List Retimed → Type 0 = λ xs. AreRoundsFollowed g.F.RunFollower.has_come c.args.options.now d xs c.args.first in
    record { more = []; followed = subst P (sym (append-nil runs)) is; notified = notified-none g.V.FrameWatcher.was_notified c.args.watcher.now (c.args.options.now.max_frames - length (frames_of runs)) }

pub returns-then-frames-before : goal.returns-then-frames-before
returns-then-frames-before g c = λ d runs is. (false, c.loop.invariant d runs is)

pub taken-requires-clause-guesses : goal.taken-requires-clause-guesses
taken-requires-clause-guesses g c κs within = c.requires.guesses

pub taken-requires-clause-rounds : goal.taken-requires-clause-rounds
taken-requires-clause-rounds g c κs within =
    let is = c.requires.rounds in
    let so_far = c.loop.invariant is.0 is.1 is.2 in
    (is.0, is.1 ++ so_far.more, so_far.followed)

pub returns-in-Ended : goal.returns-in-Ended
returns-in-Ended g c = λ d runs is.
    let has_come = g.F.RunFollower.has_come in
    let was_notified = g.V.FrameWatcher.was_notified in
    let options = c.args.options.now in
    let before = c.loop.invariant d runs is in
    let P : Further g.row.F.Denot → Type 0 = λ x. IsFurther has_come was_notified options d (runs ++ before.more) x c.loop.watcher c.taken.new.watcher in
    let last = subst P c.in-Ended.is (c.in_ok-next.ensures d (runs ++ before.more) before.followed) in (
      true,
      record {
        more = before.more;
        followed = last.followed;
        notified = notified-last was_notified c.args.watcher.now c.loop.watcher c.taken.new.watcher (options.max_frames - length (frames_of runs)) before.more before.notified last.notified;
      },
    )

pub loop-preserved : goal.loop-preserved
loop-preserved g c = λ d runs is.
    let has_come = g.F.RunFollower.has_come in
    let was_notified = g.V.FrameWatcher.was_notified in
    let options = c.args.options.now in
    let before = c.loop.invariant d runs is in
    let state = c.in-Round.next in
    let P : Further g.row.F.Denot → Type 0 = λ x. IsFurther has_come was_notified options d (runs ++ before.more) x c.loop.watcher c.taken.new.watcher in
    let next = subst P c.in-Round.is (c.in_ok-next.ensures d (runs ++ before.more) before.followed) in
    let Q : List Retimed → Type 0 = λ xs. AreRoundsFollowed has_come options d xs state in
    record {
      more = before.more ++ next.run ∷ [];
      followed = subst Q (append_assoc runs before.more (next.run ∷ [])) next.followed;
      notified = notified-more was_notified c.args.watcher.now c.loop.watcher c.taken.new.watcher options.max_frames runs before.more next.run before.notified next.notified;
    }

pub returns : goal.returns
returns g c = λ d runs is. (false, c.loop.invariant d runs is)
