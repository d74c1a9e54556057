use Rattle.frame_runs.proofs.follower.started.Goals as goal

pub returns-in-Ok : goal.returns-in-Ok
returns-in-Ok c =
    let is = c.in-Ok.ensures in
    record { merges = is.merges; streams = is.streams; stay = is.stay; in_range = is.in_range }
