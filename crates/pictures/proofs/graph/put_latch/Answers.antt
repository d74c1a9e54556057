use Rattle.std.specs.Prelude.{codes}
use Rattle.counted_io.proofs.BufferedLaws.{puts-then}
use Rattle.pictures.specs.Nodes.{latch_line}
use Rattle.pictures.proofs.graph.put_latch.Goals as goal

pub returns : goal.returns
unfolding latch_line
returns g c =
    rw (c.from.ensures, c.reset_mark.ensures) at
    (puts-then c.put_node.ensures (puts-then {xs = codes " [shape=box,label=l"} c.put.ensures (puts-then c.put_number.ensures (puts-then c.put-2.ensures
    (puts-then c.put_if.ensures (puts-then c.put_if-2.ensures c.put-3.ensures))))))
