-- A walk over the parts of the flow, to the one that holds a node.
use Rattle.std.proofs.Common.{◌≡◌, ℕ, ◌+◌, ◌<◌, ◌≤◌, List, ◌∷◌, length, get_or, drop, arith, sym, subst}
use Rattle.frame_net.specs.FlowNet.{FlowNet, IsFlowNet}
use Rattle.pulse_parts.specs.declared.parts.FlowPart.{FlowPart}
use Rattle.pulse_parts.specs.Parts.{AreFlowParts, HoldsNode, cells_of}
use Rattle.pulse_parts.proofs.PartsLeftLaws.{left_at}
use Rattle.pulse_parts.proofs.JoinedPartLaws.{AtPart, at_part}

-- the parts that are left hold the nodes from one on that isn't above v
pub record FlowAhead (net : FlowNet) (v : ℕ) (rest : List FlowPart) : Type 0 where
  -- the node at which the parts that are left begin
  pub from : ℕ
  -- it isn't above v
  pub reached : from ≤ v
  -- these parts hold the nodes from there on, end to end
  pub cut : AreFlowParts net from rest

-- before the first part all nodes are ahead
pub flow_all : (net : FlowNet) (v : ℕ) (all : List FlowPart) → AreFlowParts net 0 all → FlowAhead net v all
flow_all net v all cut = record { from = 0; reached = omega arith; cut = cut }

at_index : (net : FlowNet) (v : ℕ) (all : List FlowPart) (i : ℕ) (p : FlowPart) → i < length all → p ≡ get_or all i p → FlowAhead net v (drop i all) → FlowAhead net v (p ∷ drop (i + 1) all)
at_index net v all i p h e a = subst (λ (rest : List FlowPart). FlowAhead net v rest) (left_at all i p h e) a

-- past a part that ends at v or before it, v is still ahead
pub flow_more : (net : FlowNet) (v : ℕ) (all : List FlowPart) (i : ℕ) (p : FlowPart) → i < length all → p ≡ get_or all i p → p.end ≤ v
    → FlowAhead net v (drop i all) → FlowAhead net v (drop (i + 1) all)
flow_more net v all i p h e over a = let b = at_index net v all i p h e a in record { from = p.end; reached = over; cut = b.cut.1.1 }

holds : (net : FlowNet) (v : ℕ) (all : List FlowPart) (q : FlowPart) → q.first ≤ v → AtPart net all v q → HoldsNode net (cells_of all) v q
holds net v all q lo a = record {
  low = lo;
  from = omega (arith, a.within.row);
  in_nodes = omega (arith, a.within.in_nodes, a.within.at);
  in_arcs = omega (arith, a.within.in_rows, a.within.row);
  residuals = λ j l. sym (a.res j l);
  excess = sym a.excess;
}

-- the first part that ends after v holds it
pub flow_here : (net : FlowNet) (v : ℕ) (all : List FlowPart) (i : ℕ) (p : FlowPart) → IsFlowNet net → AreFlowParts net 0 all → i < length all → p ≡ get_or all i p → v < p.end
    → FlowAhead net v (drop i all) → HoldsNode net (cells_of all) v p
flow_here net v all i p ok cut h e under a =
    let b = at_index net v all i p h e a in
    let reached : p.first ≤ v = omega (arith, b.cut.0, b.reached) in
    let lo : (get_or all i p).first ≤ v = subst (λ (q : FlowPart). q.first ≤ v) e reached in
    let hi : v < (get_or all i p).end = subst (λ (q : FlowPart). v < q.end) e under in
    subst (λ (q : FlowPart). HoldsNode net (cells_of all) v q) (sym e) (holds net v all (get_or all i p) lo (at_part net all v i p ok cut h lo hi))
