use Rattle.std.specs.Prelude.{codes}
use Rattle.counted_io.proofs.BufferedLaws.{puts-then}
use Rattle.reports.specs.Batches.{done_text}
use Rattle.reports.proofs.batch.put_done.Goals as goal

pub returns : goal.returns
unfolding done_text
returns g c = rw (c.from.ensures, c.from-2.ensures) at (puts-then {xs = codes " done "} c.put.ensures c.put_change.ensures)
