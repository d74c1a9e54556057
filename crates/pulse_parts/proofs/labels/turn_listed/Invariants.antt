use Rattle.pulse_parts.proofs.TurningLaws.{TurnedFirst}
use Rattle.pulse_parts.proofs.labels.turn_listed.Given as goal

abbrev pub invariant-loop-i : goal.invariant-loop-i
invariant-loop-i l = TurnedFirst l.first l.next l.list l.i l.fn.labels l.labels
