use Rattle.counted_io.proofs.BufferedLaws.{puts-nothing, puts-then}
use Rattle.reports.specs.Counts.{merge_counts}
use Rattle.reports.proofs.counts.put_merge_counts.Goals as goal

pub returns-in-Some : goal.returns-in-Some
unfolding merge_counts
returns-in-Some g c = rw c.in-Some.is (puts-then c.put_count.ensures c.put_count-in-Some.ensures)

pub returns-in-None : goal.returns-in-None
unfolding merge_counts
returns-in-None g c = rw c.in-None.is (puts-nothing _)
