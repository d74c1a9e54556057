use Rattle.unit_flows.proofs.MarkLaws.{turned-none, turned-more}
use Rattle.unit_flows.proofs.nearest.flip.Goals as goal

pub loop-k-init : goal.loop-k-init
loop-k-init c = turned-none c.args.marks.now

pub loop-k-preserved : goal.loop-k-preserved
loop-k-preserved c = turned-more c.args.marks.now c.loop-k.marks c.loop-k.k c.loop-k.invariant c.loop-k-test.true
