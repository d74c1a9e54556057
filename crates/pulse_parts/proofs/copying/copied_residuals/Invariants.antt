use Rattle.std.proofs.Common.{drop}
use Rattle.frame_net.specs.FlowNet.{node_count, start}
use Rattle.pulse_parts.specs.Parts.{FlowPartFits}
use Rattle.pulse_parts.proofs.CopyLaws.{Copied}
use Rattle.pulse_parts.proofs.copying.copied_residuals.Given as goal

abbrev pub invariant-loop-i : goal.invariant-loop-i
invariant-loop-i l = Copied (FlowPartFits l.net) (λ p. p.first) (λ p. p.end) (λ p. p.residuals.items) (start l.net) (node_count l.net) l.first l.end l.flow (drop l.i l.flow) l.residuals.items
