use Rattle.counted_io.proofs.BufferedLaws.{puts-byte, puts-then}
use Rattle.reports.specs.Counts.{count_line}
use Rattle.reports.proofs.counts.put_count.Goals as goal

pub returns : goal.returns
unfolding count_line
returns g c = puts-then c.put.ensures (puts-byte c.put_byte.ensures (puts-then c.put_number.ensures c.put_byte-2.ensures))
