use Rattle.std.proofs.Common.{drop}
use Rattle.pulse_parts.proofs.FlowPartLaws.{FlowAhead}
use Rattle.pulse_parts.proofs.places.part_of.Given as goal

abbrev pub invariant-loop-part : goal.invariant-loop-part
invariant-loop-part l = FlowAhead l.net l.v (drop l.part-index l.parts)
