use Rattle.std.proofs.Common.{drop}
use Rattle.pulse_parts.specs.declared.parts.PushPart.{PushPart}
use Rattle.pulse_parts.proofs.JoinedLaws.{IsAhead}
use Rattle.pulse_parts.proofs.joined.push_over.Given as goal

abbrev pub invariant-loop-part : goal.invariant-loop-part
invariant-loop-part l = IsAhead (λ (p : PushPart). p.values.items) l.parts (drop l.part-index l.parts) l.arc l.place
