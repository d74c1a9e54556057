use Rattle.counted_io.proofs.BufferedLaws.{puts-byte, puts-then}
use Rattle.reports.specs.waves.Dumps.{value_line}
use Rattle.reports.proofs.waves.values.put_value_line.Goals as goal

pub returns : goal.returns
unfolding value_line
returns g c = puts-byte c.put_byte.ensures (puts-then c.put_code.ensures c.put_byte-2.ensures)
