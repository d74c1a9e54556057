-- A walk over the parts of the pushes, to the one that holds a node's row.
use Rattle.std.proofs.Common.{◌≡◌, ℕ, ◌+◌, ◌-◌, ◌<◌, ◌≤◌, List, ◌∷◌, length, slice_index, get_or, drop, arith, ap, ◌∙◌, subst}
use Rattle.frame_net.specs.FlowNet.{FlowNet, node_count, start, IsFlowNet}
use Rattle.pulse_parts.specs.declared.parts.PushPart.{PushPart}
use Rattle.pulse_parts.specs.Parts.{IsPiece, PushPartFits, ArePushParts, values_of}
use Rattle.pulse_parts.proofs.PartsLeftLaws.{Rising, Left, left_all, left_more, left_here, left_at}

-- the first arcs of the nodes' rows rise from 0 on
pub rising : (net : FlowNet) → IsFlowNet net → Rising (start net) (node_count net)
rising net ok = record { zeroed = ok.first; up = ok.rows }

-- a part holds the pushes over its nodes' rows
pub push_piece : (net : FlowNet) (p : PushPart) → PushPartFits net p → IsPiece (λ q. q.first) (λ q. q.end) (λ q. q.values.items) (start net) (node_count net) p
push_piece net p fit = record { ordered = fit.ordered; within = fit.within; sized = fit.sized }

-- the parts that are left hold the rows from a node on that isn't above w
pub record Ahead (net : FlowNet) (w : ℕ) (all rest : List PushPart) : Type 0 where
  -- the node at which the parts that are left begin
  pub from : ℕ
  -- it isn't above w
  pub reached : from ≤ w
  -- these parts hold the rows of the nodes from there on
  pub left : Left (PushPartFits net) (λ q. q.first) (λ q. q.end) (λ q. q.values.items) (start net) (node_count net) from all rest

-- before the first part all rows are ahead
pub ahead_all : (net : FlowNet) (w : ℕ) (all : List PushPart) → IsFlowNet net → ArePushParts net 0 all → Ahead net w all all
ahead_all net w all ok cut = record {
  from = 0;
  reached = omega arith;
  left = left_all (PushPartFits net) (λ q. q.first) (λ q. q.end) (λ q. q.values.items) (start net) (node_count net) all (rising net ok) cut;
}

-- the part holds the row of node w
pub record Here (net : FlowNet) (w : ℕ) (all : List PushPart) (p : PushPart) : Type 0 where
  -- the row begins no earlier than the part's values
  pub after : p.base ≤ start net w
  -- the row ends no later than the part's values
  pub before : start net (w + 1) ≤ p.base + length p.values.items
  -- each push of the row is at its place in the part
  pub value : (arc : ℕ) → start net w ≤ arc → arc < start net (w + 1) → slice_index (values_of all) arc ≡ slice_index p.values.items (arc - p.base)

at_index : (net : FlowNet) (w : ℕ) (all : List PushPart) (i : ℕ) (p : PushPart) → i < length all → p ≡ get_or all i p
    → Ahead net w all (drop i all) → Ahead net w all (p ∷ drop (i + 1) all)
at_index net w all i p h e a = subst (λ (rest : List PushPart). Ahead net w all rest) (left_at all i p h e) a

-- past a part that ends at w or before it, w's row is still ahead
pub ahead_more : (net : FlowNet) (w : ℕ) (all : List PushPart) (i : ℕ) (p : PushPart) → IsFlowNet net → i < length all → p ≡ get_or all i p
    → p.end ≤ w → Ahead net w all (drop i all) → Ahead net w all (drop (i + 1) all)
ahead_more net w all i p ok h e over a =
    let b = at_index net w all i p h e a in
    record {
      from = p.end;
      reached = over;
      left = left_more (PushPartFits net) (λ q. q.first) (λ q. q.end) (λ q. q.values.items) (start net) (node_count net) b.from all p (drop (i + 1) all) (rising net ok) (push_piece net) b.left;
    }

-- the first part that ends after w holds its row
pub here_at : (net : FlowNet) (w : ℕ) (all : List PushPart) (i : ℕ) (p : PushPart) → IsFlowNet net → w < node_count net → i < length all → p ≡ get_or all i p
    → w < p.end → Ahead net w all (drop i all) → Here net w all p
here_at net w all i p ok wn h e under a0 =
    let a = at_index net w all i p h e a0 in
    let fit : PushPartFits net p = a.left.cut.1.0 in
    let reached : p.first ≤ w = omega (arith, a.left.cut.0, a.reached) in
    let low : start net p.first ≤ start net w = ok.rows p.first w reached (omega arith) in
    let top : start net (w + 1) ≤ start net p.end = ok.rows (w + 1) p.end (omega arith) fit.within in
    record {
      after = omega (arith, fit.based, low);
      before = omega (arith, fit.sized, fit.based, top);
      value = λ arc lo hi.
          left_here (PushPartFits net) (λ q. q.first) (λ q. q.end) (λ q. q.values.items) (start net) (node_count net) a.from all p (drop (i + 1) all) (rising net ok) (push_piece net) a.left arc (omega (arith, low, lo)) (omega (arith, top, hi))
          ∙ ap (λ (x : ℕ). slice_index p.values.items x) (let q : arc - start net p.first ≡ arc - p.base = omega (arith, fit.based) in q);
    }
