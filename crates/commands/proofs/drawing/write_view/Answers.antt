use Rattle.commands.specs.Drawings.{middle, shown}
use Rattle.commands.proofs.drawing.write_view.Goals as goal

pub returns-in-Ok-clause-picture : goal.returns-in-Ok-clause-picture
returns-in-Ok-clause-picture g c =
    let scene = c.args.scene.now in
    (c.in-Ok.ensures scene.keep scene.set (shown scene.circuit c.args.task.now) (middle scene.circuit c.args.task.now) c.requires).ok
