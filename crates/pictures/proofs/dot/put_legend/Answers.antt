use Rattle.counted_io.proofs.BufferedLaws.{puts-then}
use Rattle.pictures.specs.Pictures.{legend}
use Rattle.pictures.proofs.dot.put_legend.Goals as goal

pub returns : goal.returns
unfolding legend
returns g c = puts-then c.put.ensures (puts-then c.put-2.ensures (puts-then c.put-3.ensures (puts-then c.put-4.ensures c.put-5.ensures)))
