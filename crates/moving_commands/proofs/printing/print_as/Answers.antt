use Rattle.moving_commands.proofs.PrintingLaws.{moves_as_object}
use Rattle.moving_commands.proofs.printing.print_as.Goals as goal

pub returns-then-json-clause-moves : goal.returns-then-json-clause-moves
returns-then-json-clause-moves g c = moves_as_object c.args.json c.args.task.now c.args.answer.now _ _ _ c.if-json.true c.print_object.ensures
