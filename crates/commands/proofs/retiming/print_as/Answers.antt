use Rattle.commands.proofs.FrameLaws.{frames_as_object}
use Rattle.commands.proofs.retiming.print_as.Goals as goal

pub returns-then-json-clause-frames : goal.returns-then-json-clause-frames
returns-then-json-clause-frames g c =
    frames_as_object c.args.json c.args.task.now c.args.timed.now.answer c.args.timed.now.times _ _ _ c.if-json.true c.print_object.ensures
