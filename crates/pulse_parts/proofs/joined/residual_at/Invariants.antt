use Rattle.std.proofs.Common.{drop}
use Rattle.pulse_parts.specs.declared.parts.FlowPart.{FlowPart}
use Rattle.pulse_parts.proofs.JoinedLaws.{IsAhead}
use Rattle.pulse_parts.proofs.joined.residual_at.Given as goal

abbrev pub invariant-loop-part : goal.invariant-loop-part
invariant-loop-part l = IsAhead (λ (p : FlowPart). p.residuals.items) l.parts (drop l.part-index l.parts) l.arc l.place
