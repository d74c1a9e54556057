use Rattle.pulse_parts.specs.Parts.{values_of}
use Rattle.pulse_parts.proofs.DeliveredPartLaws.{PartVisited}
use Rattle.pulse_parts.proofs.whole.deliver_listed.Given as goal

abbrev pub invariant-loop-i : goal.invariant-loop-i
invariant-loop-i l = PartVisited l.net l.labels (values_of l.pushes) l.i l.fn.part l.part
