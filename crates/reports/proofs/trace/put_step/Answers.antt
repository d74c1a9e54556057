use Rattle.counted_io.proofs.BufferedLaws.{puts-byte, puts-then}
use Rattle.reports.specs.Traces.{step_at}
use Rattle.reports.proofs.trace.put_step.Goals as goal

pub returns : goal.returns
unfolding step_at
returns g c = puts-byte c.put_byte.ensures (puts-then c.put_values.ensures c.put_byte-2.ensures)
