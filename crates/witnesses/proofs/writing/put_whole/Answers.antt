use Rattle.counted_io.proofs.BufferedLaws.{puts-then}
use Rattle.witnesses.proofs.writing.put_whole.Goals as goal

pub returns : goal.returns
returns g c = puts-then c.put_witness.ensures c.put_all_reached.ensures
