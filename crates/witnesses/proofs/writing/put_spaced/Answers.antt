use Rattle.counted_io.proofs.BufferedLaws.{puts-byte}
use Rattle.witnesses.proofs.writing.put_spaced.Goals as goal

pub returns : goal.returns
returns g c = puts-byte c.put_byte.ensures c.put_property.ensures
