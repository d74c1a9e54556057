use Rattle.counted_io.proofs.BufferedLaws.{puts-then}
use Rattle.moving_commands.proofs.lines.put_number_line.Goals as goal

pub returns : goal.returns
returns g c = rw c.from.ensures at (puts-then (puts-then c.put.ensures c.put_number.ensures) c.put-2.ensures)
