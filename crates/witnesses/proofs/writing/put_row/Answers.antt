use Rattle.counted_io.proofs.BufferedLaws.{puts-then}
use Rattle.witnesses.proofs.writing.put_row.Goals as goal

pub returns : goal.returns
returns g c = puts-then c.put_digits.ensures c.put_byte.ensures
