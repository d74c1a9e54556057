use Rattle.counted_io.proofs.BufferedLaws.{puts-then}
use Rattle.certificate_files.proofs.writing.put_block.Goals as goal

pub returns : goal.returns
returns g c = rw c.as_slice.ensures at (puts-then (puts-then c.put_frame.ensures c.put_gates.ensures) c.put_routes.ensures)
