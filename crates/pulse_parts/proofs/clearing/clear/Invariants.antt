use Rattle.pulse_parts.specs.Reading.{Clears}
use Rattle.pulse_parts.proofs.clearing.clear.Given as goal

abbrev pub invariant-loop-x : goal.invariant-loop-x
invariant-loop-x l = Clears l.from l.x l.fn.values l.values
