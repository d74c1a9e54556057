use Rattle.pictures.specs.Nodes.{input_line}
use Rattle.counted_io.proofs.BufferedLaws.{puts-then}
use Rattle.std.specs.Prelude.{codes}
use Rattle.pictures.proofs.TextLaws.{puts-drawn, puts-undrawn}
use Rattle.pictures.specs.Pictures.{input_lines}
use Rattle.pictures.proofs.graph.put_drawn_input.Goals as goal

pub returns-then-draws : goal.returns-then-draws
unfolding input_lines input_line
returns-then-draws g c = puts-drawn c.draws.ensures c.if-draws.true ((rw (c.from.ensures, c.saturating_sub.ensures) at
    (puts-then c.put_node.ensures (puts-then {xs = codes " [shape=cds,label=i"} c.put.ensures (puts-then c.put_number.ensures c.put-then-draws.ensures)))))

pub returns-else-draws : goal.returns-else-draws
unfolding input_lines
returns-else-draws g c = puts-undrawn _ c.draws.ensures c.if-draws.false
