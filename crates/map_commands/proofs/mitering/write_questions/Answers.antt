use Rattle.map_commands.proofs.MiterLaws.{prints-miter}
use Rattle.map_commands.proofs.mitering.write_questions.Goals as goal

pub returns-in-Ok-clause-miter : goal.returns-in-Ok-clause-miter
returns-in-Ok-clause-miter g c =
    prints-miter _ (g.O.CountedWrite.output c.args.out.now) (g.O.CountedWrite.output c.write_made-written.new.out) c.args.task.now c.in_ok-mapped.mapped c.in-Ok.made c.unwrap_or-spelling.result c.write_made-written.result
    c.in_ok-mapped.ensures c.in-Ok.ensures.made c.unwrap_or-spelling.ensures c.write_made-written.ensures.written
