use Rattle.aig_graph.proofs.MarkingLaws.{Marks-all, Marks-more}
use Rattle.aig_graph.specs.Border.{reads}
use Rattle.pictures.proofs.named.mark_literals.Goals as goal

pub loop-lit-preserved : goal.loop-lit-preserved
loop-lit-preserved c =
    Marks-more reads c.args.lits.now c.loop-lit.lit-index c.lit-item.result 0 _ _ _ c.loop-lit-test.true c.lit-item.is c.loop-lit.invariant (rw c.var.ensures.variable at c.mark_variable.ensures)

pub returns : goal.returns
returns c = Marks-all reads _ c.loop-lit.lit-index 0 _ _ c.loop-lit-test.false c.loop-lit.invariant
