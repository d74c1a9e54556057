use Rattle.std.proofs.Common.{rules}
use Rattle.counted_io.proofs.BufferedLaws.{writes-whole}
use Rattle.reports.proofs.remaining.print_remaining.Goals as goal

pub returns : goal.returns
returns g c = writes-whole c.new-out.ensures c.put_remaining.ensures c.flush.ensures (search rules)
