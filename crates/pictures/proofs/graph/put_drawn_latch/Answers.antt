use Rattle.counted_io.proofs.BufferedLaws.{puts-then}
use Rattle.pictures.proofs.TextLaws.{puts-drawn, puts-undrawn}
use Rattle.pictures.specs.Pictures.{latch_lines}
use Rattle.pictures.proofs.graph.put_drawn_latch.Goals as goal

pub returns-then-draws : goal.returns-then-draws
unfolding latch_lines
returns-then-draws g c = puts-drawn c.draws.ensures c.if-draws.true (rw c.look.ensures at (puts-then c.put_latch.ensures c.put_edges.ensures))

pub returns-else-draws : goal.returns-else-draws
unfolding latch_lines
returns-else-draws g c = puts-undrawn _ c.draws.ensures c.if-draws.false
