use Rattle.counted_io.proofs.BufferedLaws.{puts-then}
use Rattle.certificate_files.proofs.writing.put_part.Goals as goal

pub returns : goal.returns
returns g c = rw c.as_slice.ensures at (puts-then c.put_listed.ensures c.put_blocks.ensures)
