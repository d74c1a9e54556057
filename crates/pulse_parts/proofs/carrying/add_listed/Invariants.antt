use Rattle.pulse_parts.proofs.CarryLaws.{TakesParts}
use Rattle.pulse_parts.proofs.carrying.add_listed.Given as goal

abbrev pub invariant-loop-i : goal.invariant-loop-i
invariant-loop-i l = TakesParts l.parts l.first l.end l.i l.fn.list l.list
