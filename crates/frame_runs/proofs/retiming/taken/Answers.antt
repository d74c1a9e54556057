use Rattle.frame_runs.proofs.FollowingLaws.{one-taken}
use Rattle.frame_runs.proofs.retiming.taken.Goals as goal

pub returns-in-Ok-clause-followed : goal.returns-in-Ok-clause-followed
returns-in-Ok-clause-followed g c = λ b d read held from n before come.
    let run = c.args.run in
    let made = c.in-Ok.ensures.underway run.bound d read held n run.keep before c.requires.moves in
    record {
      underway = made;
      come = one-taken g.F.RunFollower.has_come c.args.options.now run.bound b d read held from n run.retimed c.in-Ok.retimed run.keep c.in-Ok.keep c.args.frame run.follower before c.requires.moves made come;
    }

pub after_frame-requires : goal.after_frame-requires
after_frame-requires g c =
    let run = c.args.run in
    let underway = c.requires.underway in
    (run.bound, underway.0, underway.1, underway.2, underway.3, run.keep, underway.4, c.requires.moves)
