use Rattle.pulse_parts.proofs.CarryLaws.{TakesSome}
use Rattle.pulse_parts.proofs.carrying.add_within.Given as goal

abbrev pub invariant-loop-i : goal.invariant-loop-i
invariant-loop-i l = TakesSome l.first l.end l.listed l.i l.fn.list l.list
