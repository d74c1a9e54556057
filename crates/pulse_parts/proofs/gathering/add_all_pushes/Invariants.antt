use Rattle.pulse_parts.proofs.GatheredLaws.{GathersParts}
use Rattle.pulse_parts.proofs.gathering.add_all_pushes.Given as goal

abbrev pub invariant-loop-i : goal.invariant-loop-i
invariant-loop-i l = GathersParts l.net l.pushes l.first l.end l.i l.fn.list l.list
