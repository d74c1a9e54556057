use Rattle.std.specs.Prelude.{codes}
use Rattle.counted_io.proofs.BufferedLaws.{puts-then}
use Rattle.certificate_files.proofs.writing.put_merged_latch.Goals as goal

pub returns : goal.returns
returns g c = rw (c.from-latch.ensures, c.from-reads.ensures, c.code.ensures.code) at (puts-then {xs = codes "m "} c.put.ensures c.put_line.ensures)
