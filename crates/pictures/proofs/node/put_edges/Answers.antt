use Rattle.std.proofs.Common.{arith}
use Rattle.counted_io.proofs.BufferedLaws.{puts-end, puts-next}
use Rattle.pictures.specs.Nodes.{edge_line}
use Rattle.pictures.specs.Views.{drawn_in}
use Rattle.pictures.proofs.node.put_edges.Goals as goal

pub loop-lit-preserved : goal.loop-lit-preserved
loop-lit-preserved g c =
    puts-next (edge_line (drawn_in c.args.view.now) c.args.to) _ _ _ c.loop-lit-test.true c.lit-item.is c.loop-lit.invariant c.put_edge.ensures

pub returns : goal.returns
returns g c = puts-end (edge_line (drawn_in c.args.view.now) c.args.to) c.args.lits.now _ (omega (arith, c.loop-lit-test.false)) c.loop-lit.invariant
