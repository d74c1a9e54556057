use Rattle.std.proofs.Common.{rules}
use Rattle.counted_io.proofs.BufferedLaws.{writes-whole}
use Rattle.mapped_answers.proofs.map_text.write_before_gates.Goals as goal

pub returns : goal.returns
returns g c = writes-whole c.new-out.ensures c.put_before_gates.ensures c.flush.ensures (search rules)
