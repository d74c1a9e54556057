use Rattle.aig_graph.proofs.MarkingLaws.{Marks-all, Marks-more}
use Rattle.pictures.specs.Near.{names_single}
use Rattle.pictures.proofs.named.mark_singles_named.Goals as goal

pub loop-symbol-preserved : goal.loop-symbol-preserved
loop-symbol-preserved c =
    Marks-more (names_single c.args.lits.now c.args.name.now) c.args.symbols.now c.loop-symbol.symbol-index c.symbol-item.result 0 _ _ _ c.loop-symbol-test.true c.symbol-item.is c.loop-symbol.invariant c.mark_single_named.ensures

pub returns : goal.returns
returns c = Marks-all (names_single c.args.lits.now c.args.name.now) _ c.loop-symbol.symbol-index 0 _ _ c.loop-symbol-test.false c.loop-symbol.invariant
