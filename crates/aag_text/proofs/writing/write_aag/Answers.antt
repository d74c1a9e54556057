use Rattle.std.proofs.Common.{rules}
use Rattle.counted_io.proofs.BufferedLaws.{writes-whole}
use Rattle.aag_text.proofs.writing.write_aag.Goals as goal

pub returns : goal.returns
returns g c = writes-whole c.new-out.ensures c.put_text.ensures c.flush.ensures (search rules)
