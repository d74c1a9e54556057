use Rattle.counted_io.proofs.BufferedLaws.{puts-then}
use Rattle.witnesses.proofs.writing.put_properties.Goals as goal

pub returns : goal.returns
returns g c = rw c.in-Some.ensures.cases.0 (puts-then c.put_property.ensures (puts-then c.put_all_spaced.ensures c.put_byte-2.ensures))
