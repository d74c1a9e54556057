-- How many residuals, excesses and labels the parts have together.
use Rattle.std.proofs.Common.{◌≡◌, List, length, arith}
use Rattle.frame_net.specs.FlowNet.{FlowNet, node_count, start, IsFlowNet}
use Rattle.pulse_parts.specs.declared.parts.FlowPart.{FlowPart}
use Rattle.pulse_parts.specs.declared.parts.PushPart.{PushPart}
use Rattle.pulse_parts.specs.Parts.{FlowPartFits, PushPartFits, AreFlowParts, ArePushParts, cells_of, values_of}
use Rattle.pulse_parts.proofs.PartsLeftLaws.{whole_len}
use Rattle.pulse_parts.proofs.PushPartLaws.{rising, push_piece}
use Rattle.pulse_parts.proofs.JoinedPartLaws.{by_node, res_piece, excess_piece, next_piece}

-- there is a residual for each arc, and an excess and a new label for each node
pub record AreSized (net : FlowNet) (qs : List FlowPart) : Type 0 where
  -- there is a residual for each arc
  pub residuals : length (cells_of qs).residuals ≡ length net.heads
  -- there is an excess for each node
  pub excess : length (cells_of qs).excess ≡ node_count net
  -- there is a new label for each node
  pub next : length (cells_of qs).next ≡ node_count net

-- parts of a flow have a residual for each arc, and an excess and a new label for each node
pub sizes : (net : FlowNet) (qs : List FlowPart) → IsFlowNet net → AreFlowParts net 0 qs → AreSized net qs
sizes net qs ok cut = record {
  residuals = omega (arith, ok.first, ok.last, whole_len (FlowPartFits net) (λ q. q.first) (λ q. q.end) (λ q. q.residuals.items) (start net) (node_count net) 0 (rising net ok) (res_piece net) qs (omega arith) cut);
  excess = omega (arith, whole_len (FlowPartFits net) (λ q. q.first) (λ q. q.end) (λ q. q.excess.items) (λ v. v) (node_count net) 0 (by_node (node_count net)) (excess_piece net) qs (omega arith) cut);
  next = omega (arith, whole_len (FlowPartFits net) (λ q. q.first) (λ q. q.end) (λ q. q.next.items) (λ v. v) (node_count net) 0 (by_node (node_count net)) (next_piece net) qs (omega arith) cut);
}

-- parts of pushes have a push for each arc
pub push_size : (net : FlowNet) (ps : List PushPart) → IsFlowNet net → ArePushParts net 0 ps → length (values_of ps) ≡ length net.heads
push_size net ps ok cut = omega (arith, ok.first, ok.last, whole_len (PushPartFits net) (λ p. p.first) (λ p. p.end) (λ p. p.values.items) (start net) (node_count net) 0 (rising net ok) (push_piece net) ps (omega arith) cut)
