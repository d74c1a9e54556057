use Rattle.std.specs.Prelude.{codes}
use Rattle.counted_io.proofs.BufferedLaws.{puts-then}
use Rattle.certificate_files.proofs.writing.put_long_route.Goals as goal

pub returns : goal.returns
returns g c = puts-then {xs = codes "r"} c.put.ensures (puts-then c.put_points.ensures c.put_byte.ensures)
