use Rattle.counted_io.proofs.BufferedLaws.{puts-byte}
use Rattle.pictures.specs.Nodes.{node_name}
use Rattle.pictures.proofs.node.put_node.Goals as goal

pub returns-in-Variable : goal.returns-in-Variable
unfolding node_name
returns-in-Variable g c = rw c.in-Variable.is (rw c.from.ensures at c.put_number.ensures)

pub returns-in-Property : goal.returns-in-Property
unfolding node_name
returns-in-Property g c = rw c.in-Property.is (puts-byte c.put_byte.ensures c.put_number-in-Property.ensures)
