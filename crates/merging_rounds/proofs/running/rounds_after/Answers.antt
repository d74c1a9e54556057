use Rattle.std.proofs.Common.{◌-◌, List, [], false, append-nil, length, subst, sym}
use Rattle.retimed_circuits.specs.declared.report.Retimed.{Retimed}
use Rattle.merging_rounds.specs.Following.{AreRoundsFollowed}
use Rattle.merging_rounds.specs.Rounds.{frames_of}
use Rattle.merging_rounds.proofs.StageLaws.{notified-none}
use Rattle.merging_rounds.proofs.running.rounds_after.Goals as goal

pub returns-else-options : goal.returns-else-options
returns-else-options g c = λ d runs is.
    let P : List Retimed → Type 0 = λ xs. AreRoundsFollowed g.F.RunFollower.has_come c.args.options.now d xs c.args.first in
    (false, record { more = []; followed = subst P (sym (append-nil runs)) is; notified = notified-none g.V.FrameWatcher.was_notified c.args.watcher.now (c.args.options.now.max_frames - length (frames_of runs)) })
