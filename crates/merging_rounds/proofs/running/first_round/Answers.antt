use Rattle.merging_rounds.proofs.StepLaws.{first-followed}
use Rattle.merging_rounds.proofs.running.first_round.Goals as goal

pub returns-in-Ok : goal.returns-in-Ok
returns-in-Ok g c = λ read is.
    let of = c.in-Ok.ensures in
    first-followed g.F.RunFollower.has_come c.args.options.now read c.args.run c.in-Ok.rounds is of.circuit of.kept_free of.read_latches of.frames of.parts
