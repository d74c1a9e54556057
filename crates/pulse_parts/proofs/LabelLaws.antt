-- Parts of a flow have a cell for the new label of each node.
use Rattle.std.proofs.Common.{◌≡◌, ℕ, List, arith, sym, subst}
use Rattle.frame_net.specs.FlowNet.{FlowNet, node_count}
use Rattle.pulse_parts.specs.declared.parts.FlowPart.{FlowPart}
use Rattle.pulse_parts.specs.Parts.{FlowPartFits, AreFlowParts}
use Rattle.pulse_parts.specs.Labels.{HasLabels, AreLabelled}
use Rattle.pulse_parts.proofs.BorderLaws.{cut_weaker}

-- parts of a flow have a new label for each node
pub labelled_parts : (net : FlowNet) (n : ℕ) (qs : List FlowPart) → n ≡ node_count net → AreFlowParts net 0 qs → AreLabelled n 0 qs
labelled_parts net n qs e cut =
    subst (λ (m : ℕ). AreLabelled m 0 qs) (sym e)
    (cut_weaker (FlowPartFits net) (HasLabels (node_count net)) (λ q. q.first) (λ q. q.end) (node_count net) 0 qs
    (λ q f. record { ordered = f.ordered; within = f.within; sized = omega (arith, f.nodes, f.same) }) cut)
