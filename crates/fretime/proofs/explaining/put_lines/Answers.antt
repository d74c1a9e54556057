use Rattle.std.specs.Prelude.{codes}
use Rattle.counted_io.proofs.BufferedLaws.{puts-then}
use Rattle.fretime.specs.Explaining.{indented}
use Rattle.fretime.proofs.explaining.put_lines.Goals as goal

pub returns : goal.returns
unfolding indented
returns g c = puts-then {xs = codes "    "} c.put.ensures (puts-then c.put_bytes.ensures c.put_byte.ensures)
