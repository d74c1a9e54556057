use Rattle.counted_io.proofs.BufferedLaws.{puts-then}
use Rattle.pictures.proofs.TextLaws.{puts-drawn, puts-undrawn}
use Rattle.pictures.specs.Pictures.{gate_lines}
use Rattle.pictures.proofs.graph.put_drawn_gate.Goals as goal

pub returns-then-draws : goal.returns-then-draws
unfolding gate_lines
returns-then-draws g c = puts-drawn c.draws.ensures c.if-draws.true (rw c.look.ensures at (puts-then c.put_gate.ensures c.put_edges.ensures))

pub returns-else-draws : goal.returns-else-draws
unfolding gate_lines
returns-else-draws g c = puts-undrawn _ c.draws.ensures c.if-draws.false
