use Rattle.std.proofs.Common.{rules}
use Rattle.counted_io.proofs.BufferedLaws.{writes-whole}
use Rattle.pictures.proofs.ViewLaws.{picture_is}
use Rattle.pictures.proofs.dot.write_dot.Goals as goal

pub returns : goal.returns
returns g c = λ held set shown centre view.
    writes-whole c.new-out.ensures (rw (picture_is c.args.circuit.now held set shown centre c.args.view.now view) at c.put_dot.ensures) c.flush.ensures (search rules)
