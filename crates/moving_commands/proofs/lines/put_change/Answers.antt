use Rattle.counted_io.proofs.BufferedLaws.{puts-then}
use Rattle.moving_commands.proofs.lines.put_change.Goals as goal

pub returns : goal.returns
returns g c = puts-then (puts-then (puts-then c.put_number.ensures c.put.ensures) c.put_number-2.ensures) c.put_byte.ensures
