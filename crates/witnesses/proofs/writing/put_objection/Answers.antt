use Rattle.counted_io.proofs.BufferedLaws.{puts-then}
use Rattle.witnesses.proofs.writing.put_objection.Goals as goal

pub returns : goal.returns
returns g c = rw c.property.ensures at (puts-then c.put_property.ensures c.put_reason.ensures)
