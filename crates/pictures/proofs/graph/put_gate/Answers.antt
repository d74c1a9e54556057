use Rattle.std.specs.Prelude.{codes}
use Rattle.counted_io.proofs.BufferedLaws.{puts-then}
use Rattle.pictures.specs.Nodes.{gate_line}
use Rattle.pictures.proofs.graph.put_gate.Goals as goal

pub returns : goal.returns
unfolding gate_line
returns g c =
    puts-then c.put_node.ensures (puts-then {xs = codes " [shape=circle"} c.put.ensures (puts-then c.put_if.ensures (puts-then c.put_if-2.ensures
    (puts-then c.put_if-3.ensures c.put-2.ensures))))
