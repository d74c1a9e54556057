use Rattle.counted_io.proofs.BufferedLaws.{puts-byte, puts-then}
use Rattle.reports.specs.waves.Dumps.{code}
use Rattle.reports.proofs.waves.values.put_code.Goals as goal

pub returns : goal.returns
unfolding code
returns g c = puts-byte c.put_byte.ensures (puts-then c.put_number.ensures (puts-byte c.put_byte-2.ensures c.put_number-2.ensures))
