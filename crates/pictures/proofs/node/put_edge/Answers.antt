use Rattle.std.specs.Prelude.{codes}
use Rattle.counted_io.proofs.BufferedLaws.{puts-then}
use Rattle.pictures.specs.Nodes.{edge_line}
use Rattle.pictures.proofs.TextLaws.{odd_test}
use Rattle.pictures.proofs.node.put_edge.Goals as goal

pub returns : goal.returns
unfolding edge_line
returns g c =
    rw c.var-from.ensures.variable at
    (puts-then c.put_node.ensures (puts-then {xs = codes " -> "} c.put.ensures (puts-then c.put_node-2.ensures (puts-then (rw (odd_test c.args.lit _ c.is_negated.ensures) at c.put_if.ensures)
    (puts-then (rw c.draws.ensures at c.put_if-2.ensures) c.put-2.ensures)))))
