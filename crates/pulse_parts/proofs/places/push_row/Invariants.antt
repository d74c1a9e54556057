use Rattle.std.proofs.Common.{drop}
use Rattle.pulse_parts.proofs.PushPartLaws.{Ahead}
use Rattle.pulse_parts.proofs.places.push_row.Given as goal

abbrev pub invariant-loop-part : goal.invariant-loop-part
invariant-loop-part l = Ahead l.net l.v l.parts (drop l.part-index l.parts)
