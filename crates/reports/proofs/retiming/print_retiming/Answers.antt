use Rattle.std.proofs.Common.{rules}
use Rattle.counted_io.proofs.BufferedLaws.{writes-whole}
use Rattle.reports.proofs.retiming.print_retiming.Goals as goal

pub returns : goal.returns
returns g c = writes-whole c.new-out.ensures c.put_retiming.ensures c.flush.ensures (search rules)
