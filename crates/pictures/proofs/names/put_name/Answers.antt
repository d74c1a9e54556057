use Rattle.std.specs.Prelude.{codes}
use Rattle.counted_io.proofs.BufferedLaws.{puts-then}
use Rattle.pictures.specs.Pictures.{name_line}
use Rattle.pictures.proofs.names.put_name.Goals as goal

pub returns : goal.returns
unfolding name_line
returns g c = puts-then c.put_node.ensures (puts-then {xs = codes " [label=\""} c.put.ensures (puts-then c.put_label.ensures c.put-2.ensures))
