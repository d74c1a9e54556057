use Rattle.sealed_drafts.specs.Sealed.{AreStanding}
use Rattle.sealed_drafts.proofs.drawing.literals_below.Given as goal

abbrev pub invariant-loop-literal : goal.invariant-loop-literal
invariant-loop-literal l = AreStanding l.literal-index l.end l.lits.items
