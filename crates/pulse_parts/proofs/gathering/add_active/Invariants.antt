use Rattle.pulse_parts.proofs.GatheredLaws.{GathersActive}
use Rattle.pulse_parts.proofs.gathering.add_active.Given as goal

abbrev pub invariant-loop-i : goal.invariant-loop-i
invariant-loop-i l = GathersActive l.nodes l.labels l.first l.excess l.listed l.i l.fn.list l.list
