use Rattle.std.specs.Prelude.{codes}
use Rattle.counted_io.proofs.BufferedLaws.{puts-then}
use Rattle.reports.proofs.agreement.put_difference.Goals as goal

pub returns : goal.returns
returns g c = puts-then {xs = codes "out differs at "} c.put.ensures (puts-then c.put_number.ensures c.put_byte.ensures)
