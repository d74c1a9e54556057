use Rattle.pulse_parts.specs.Parts.{values_of}
use Rattle.pulse_parts.proofs.DeliveredPartLaws.{Stepped}
use Rattle.pulse_parts.proofs.delivering.deliver_part.Given as goal

abbrev pub invariant-loop-v : goal.invariant-loop-v
invariant-loop-v l = Stepped l.net l.labels (values_of l.pushes) l.low l.v l.fn.part l.part
