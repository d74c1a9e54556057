use Rattle.counted_io.proofs.BufferedLaws.{puts-then}
use Rattle.json_reports.proofs.printing.put_line.Goals as goal

pub returns : goal.returns
returns g c = puts-then c.put.ensures c.put_byte.ensures
