use Rattle.std.specs.Prelude.{codes}
use Rattle.counted_io.proofs.BufferedLaws.{puts-nothing, puts-then}
use Rattle.reports.specs.Batches.{offset_text}
use Rattle.reports.proofs.batch.put_offset.Goals as goal

pub returns-in-Some : goal.returns-in-Some
unfolding offset_text
returns-in-Some g c = rw c.in-Some.is (puts-then {xs = codes " at "} c.put.ensures c.put_number.ensures)

pub returns-in-None : goal.returns-in-None
unfolding offset_text
returns-in-None g c = rw c.in-None.is (puts-nothing _)
