use Rattle.std.proofs.Common.{rules}
use Rattle.counted_io.proofs.BufferedLaws.{writes-whole}
use Rattle.fretime.proofs.explaining.print_page.Goals as goal

pub returns : goal.returns
returns g c = writes-whole c.new-out.ensures c.put_page.ensures c.flush.ensures (search rules)
