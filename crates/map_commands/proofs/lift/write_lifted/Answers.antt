use Rattle.map_commands.proofs.LiftLaws.{prints-lift}
use Rattle.map_commands.proofs.lift.write_lifted.Goals as goal

pub returns-in-Ok-clause-lift : goal.returns-in-Ok-clause-lift
returns-in-Ok-clause-lift g c =
    prints-lift _ (g.O.CountedWrite.output c.args.out.now) (g.O.CountedWrite.output c.write_made-written.new.out) c.args.task.now c.in_ok-given.given c.in-Ok.lifted c.unwrap_or-spelling.result c.write_made-written.result
    c.in_ok-given.ensures c.in-Ok.ensures.lifted c.unwrap_or-spelling.ensures c.write_made-written.ensures.written
