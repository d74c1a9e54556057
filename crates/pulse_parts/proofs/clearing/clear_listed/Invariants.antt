use Rattle.pulse_parts.specs.Reading.{ClearsListed}
use Rattle.pulse_parts.proofs.clearing.clear_listed.Given as goal

abbrev pub invariant-loop-i : goal.invariant-loop-i
invariant-loop-i l = ClearsListed l.net l.base l.list l.i l.fn.values l.values
