use Rattle.reports.specs.waves.Dumps.{value_at}
use Rattle.reports.proofs.WaveDumpLaws.{puts-nowhere, puts-where}
use Rattle.reports.proofs.waves.values.put_value.Goals as goal

pub returns-then-is_written : goal.returns-then-is_written
unfolding value_at
returns-then-is_written g c = puts-where c.is_written.ensures c.if-is_written.true (rw c.mark-mark.ensures at c.put_value_line.ensures)

pub returns-else-is_written : goal.returns-else-is_written
unfolding value_at
returns-else-is_written g c = puts-nowhere _ c.is_written.ensures c.if-is_written.false
