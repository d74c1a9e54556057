use Rattle.counted_io.proofs.BufferedLaws.{puts-byte, puts-then}
use Rattle.reports.specs.waves.Dumps.{time_text}
use Rattle.reports.proofs.waves.times.put_time.Goals as goal

pub returns-clause-puts : goal.returns-clause-puts
unfolding time_text
returns-clause-puts g c = puts-byte c.put_byte.ensures (puts-then c.put_number.ensures (puts-byte c.put_byte-2.ensures c.put_changes.ensures.puts))
