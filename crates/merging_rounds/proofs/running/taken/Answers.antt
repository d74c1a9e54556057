use Rattle.merging_rounds.proofs.running.taken.Goals as goal

pub taken_by-requires-after_bounds : goal.taken_by-requires-after_bounds
taken_by-requires-after_bounds g c κs within =
    let is = c.requires.rounds in
    (c.args.options.now, is.0, is.1, record { guesses = c.requires.guesses; followed = is.2; asked_are = c.in-Ok.ensures })
