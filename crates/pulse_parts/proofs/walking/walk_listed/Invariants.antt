use Rattle.pulse_parts.specs.Parts.{cells_of}
use Rattle.pulse_parts.proofs.PartWalkLaws.{PartListed}
use Rattle.pulse_parts.proofs.walking.walk_listed.Given as goal

abbrev pub invariant-loop-i : goal.invariant-loop-i
invariant-loop-i l = PartListed l.net l.labels (cells_of l.flow) l.list l.i l.fn.part l.part
