use Rattle.counted_io.proofs.BufferedLaws.{puts-then, puts-byte}
use Rattle.certificate_files.proofs.writing.put_point.Goals as goal

pub returns : goal.returns
returns g c = rw (c.from.ensures, c.sign.ensures) at (puts-byte c.put_byte.ensures (puts-then c.put_number.ensures c.put_byte-2.ensures))
