use Rattle.std.proofs.Common.{drop}
use Rattle.frame_net.specs.FlowNet.{node_count}
use Rattle.pulse_parts.specs.Parts.{FlowPartFits}
use Rattle.pulse_parts.proofs.CopyLaws.{Copied}
use Rattle.pulse_parts.proofs.copying.copied_excess.Given as goal

abbrev pub invariant-loop-i : goal.invariant-loop-i
invariant-loop-i l = Copied (FlowPartFits l.net) (λ p. p.first) (λ p. p.end) (λ p. p.excess.items) (λ v. v) (node_count l.net) l.first l.end l.flow (drop l.i l.flow) l.excess.items
