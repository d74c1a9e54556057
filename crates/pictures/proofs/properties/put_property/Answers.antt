use Rattle.counted_io.proofs.BufferedLaws.{puts-then}
use Rattle.pictures.proofs.TextLaws.{puts-drawn, puts-undrawn}
use Rattle.pictures.specs.Nodes.{property_line}
use Rattle.pictures.specs.Pictures.{property_lines}
use Rattle.pictures.proofs.properties.put_property.Goals as goal

pub returns-then-are_drawn : goal.returns-then-are_drawn
unfolding property_lines property_line
returns-then-are_drawn g c = puts-drawn c.are_drawn.ensures c.if-are_drawn.true (puts-then (puts-then c.put_node.ensures c.put.ensures) c.put_edges.ensures)

pub returns-else-are_drawn : goal.returns-else-are_drawn
unfolding property_lines
returns-else-are_drawn g c = puts-undrawn _ c.are_drawn.ensures c.if-are_drawn.false
