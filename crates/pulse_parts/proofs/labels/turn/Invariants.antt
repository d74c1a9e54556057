use Rattle.std.proofs.Common.{drop, length}
use Rattle.pulse_parts.proofs.TurningLaws.{Turned}
use Rattle.pulse_parts.proofs.labels.turn.Given as goal

abbrev pub invariant-loop-part : goal.invariant-loop-part
invariant-loop-part l = Turned (length l.fn.labels) l.fn.labels l.labels l.parts (drop l.part-index l.parts)
