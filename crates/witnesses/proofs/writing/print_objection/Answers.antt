use Rattle.std.proofs.Common.{rules}
use Rattle.counted_io.proofs.BufferedLaws.{writes-whole}
use Rattle.witnesses.proofs.writing.print_objection.Goals as goal

pub returns : goal.returns
returns g c = writes-whole c.new-out.ensures c.put_objection.ensures c.flush.ensures (search rules)
