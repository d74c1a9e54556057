use Rattle.pulse_parts.specs.Parts.{values_of}
use Rattle.pulse_parts.proofs.GatheredLaws.{GathersPushes}
use Rattle.pulse_parts.proofs.gathering.add_pushes.Given as goal

abbrev pub invariant-loop-i : goal.invariant-loop-i
invariant-loop-i l = GathersPushes l.net (values_of l.pushes) l.first l.end l.from l.i l.fn.list l.list
