use Rattle.std.proofs.lemmas.List.{take_all}
use Rattle.aig_graph.proofs.reading.mark_justice.Goals as goal

pub returns : goal.returns
returns c = simp (take_all _ _ c.loop-lits-test.false) at c.loop-lits.invariant
