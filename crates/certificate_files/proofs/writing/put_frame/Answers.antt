use Rattle.std.specs.Prelude.{codes}
use Rattle.counted_io.proofs.BufferedLaws.{puts-then}
use Rattle.certificate_files.proofs.writing.put_frame.Goals as goal

pub returns : goal.returns
returns g c = rw (c.from-count.ensures, c.len-gates.ensures, c.len-routes.ensures) at (puts-then {xs = codes "frame "} c.put.ensures c.put_line.ensures)
