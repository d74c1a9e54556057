use Rattle.pulse_parts.specs.Parts.{cells_of}
use Rattle.pulse_parts.proofs.PartWalkLaws.{PartReads}
use Rattle.pulse_parts.proofs.reading.read_part.Given as goal

abbrev pub invariant-loop-v : goal.invariant-loop-v
invariant-loop-v l = PartReads l.net l.labels l.low l.v (cells_of l.flow) l.fn.part l.part
