use Rattle.counted_io.proofs.BufferedLaws.{puts-then}
use Rattle.reports.specs.Counts.{graph_counts}
use Rattle.reports.proofs.counts.put_graph_counts.Goals as goal

pub returns : goal.returns
unfolding graph_counts
returns g c =
    puts-then c.put_count.ensures (puts-then c.put_count-2.ensures (puts-then c.put_count-3.ensures c.put_count-4.ensures))
