use Rattle.commands.proofs.FrameLaws.{object_of_frames}
use Rattle.commands.proofs.retiming.print_object.Goals as goal

pub returns-in-Ok : goal.returns-in-Ok
returns-in-Ok g c =
    object_of_frames c.args.task.now c.args.timed.now.answer c.in-Ok.left _ c.args.timed.now.times _ _ _ _ c.in-Ok.ensures c.as_ref.ensures.value c.map_counts.ensures c.print_retiming.ensures
