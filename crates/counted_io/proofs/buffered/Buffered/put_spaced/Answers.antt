use Rattle.counted_io.specs.Line.{spaced}
use Rattle.counted_io.proofs.BufferedLaws.{puts-byte}
use Rattle.counted_io.proofs.buffered.Buffered.put_spaced.Goals as goal

pub returns : goal.returns
unfolding spaced
returns g c = puts-byte c.put_byte.ensures c.put_number.ensures
