use Rattle.moving_commands.specs.Printing.{moves_data}
use Rattle.moving_commands.proofs.PlainLaws.{moves}
use Rattle.moving_commands.proofs.PrintingLaws.{made_ends}
use Rattle.moving_commands.proofs.printing.print_counted.Goals as goal

pub returns-in-Ok : goal.returns-in-Ok
returns-in-Ok g c =
    let task = c.args.task.now in
    let answer = c.args.answer.now in
    let after = c.args.after.now in
    made_ends c.print_object-printed.result c.in-Ok.object (moves_data task answer after) _ _ c.ended_by.result c.in-Ok.ensures (moves task answer after) c.ended_by.ensures c.print_object-printed.ensures
