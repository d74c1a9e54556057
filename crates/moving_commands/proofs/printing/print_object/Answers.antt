use Rattle.moving_commands.proofs.PrintingLaws.{moves_counted}
use Rattle.moving_commands.proofs.printing.print_object.Goals as goal

pub returns-in-Ok : goal.returns-in-Ok
returns-in-Ok g c = moves_counted c.args.task.now c.args.answer.now c.in-Ok.after _ _ c.print_counted.result c.in-Ok.ensures c.print_counted.ensures
