use Rattle.std.proofs.lemmas.Result.{on_ok_weaker}
use Rattle.moving_commands.proofs.MovingLaws.{kept}
use Rattle.moving_commands.proofs.moving.write_answer.Goals as goal

pub returns-in-Ok-clause-written : goal.returns-in-Ok-clause-written
returns-in-Ok-clause-written g c =
    on_ok_weaker c.write_map.result
    (λ mapped. record { between = g.O.CountedWrite.output c.write_circuit.new.out; circuit = c.in-Ok.ensures.given; mapping = mapped }) c.write_map.ensures.written

pub returns-in-Ok-clause-file : goal.returns-in-Ok-clause-file
returns-in-Ok-clause-file g c =
    kept c.args.task.now (g.O.CountedWrite.output c.args.out.now) (g.O.CountedWrite.output c.write_circuit.new.out) (g.O.CountedWrite.output c.write_map.new.out) c.in-Ok.ensures.file c.write_map.ensures.file
