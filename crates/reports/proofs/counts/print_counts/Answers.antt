use Rattle.std.proofs.Common.{rules}
use Rattle.counted_io.proofs.BufferedLaws.{writes-whole}
use Rattle.reports.proofs.counts.print_counts.Goals as goal

pub returns : goal.returns
returns g c = writes-whole c.new-out.ensures c.put_counts.ensures c.flush.ensures (search rules)
