use Rattle.pulse_parts.specs.Parts.{cells_of}
use Rattle.pulse_parts.proofs.PartWalkLaws.{PartWalked}
use Rattle.pulse_parts.proofs.walking.walk_all.Given as goal

abbrev pub invariant-loop-v : goal.invariant-loop-v
invariant-loop-v l = PartWalked l.net l.labels (cells_of l.flow) l.v l.fn.part l.part
