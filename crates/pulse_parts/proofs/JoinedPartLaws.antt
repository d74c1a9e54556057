-- The row, the excess and the new label of a node are equal in its part and in the parts joined.
use Rattle.std.proofs.Common.{◌≡◌, ℕ, ◌+◌, ◌-◌, ◌<◌, ◌≤◌, List, [], ◌∷◌, length, slice_index, get_or, arith, refl, ap, ◌∙◌}
use Rattle.frame_net.specs.FlowNet.{FlowNet, node_count, start, row_len, IsFlowNet}
use Rattle.pulse_parts.specs.declared.parts.FlowPart.{FlowPart}
use Rattle.pulse_parts.specs.Parts.{IsPiece, FlowPartFits, AreFlowParts, Within, part_cells, cells_of}
use Rattle.pulse_parts.proofs.PartsLeftLaws.{Rising, left_all, part_fits, whole_at}
use Rattle.pulse_parts.proofs.PushPartLaws.{rising}

-- places by node rise from 0 on
pub by_node : (n : ℕ) → Rising (λ v. v) n
by_node n = record { zeroed = refl; up = λ u v h k. h }

-- a part holds the residuals of its nodes' rows
pub res_piece : (net : FlowNet) (q : FlowPart) → FlowPartFits net q → IsPiece (λ p. p.first) (λ p. p.end) (λ p. p.residuals.items) (start net) (node_count net) q
res_piece net q fit = record { ordered = fit.ordered; within = fit.within; sized = fit.sized }

-- a part holds an excess for each of its nodes
pub excess_piece : (net : FlowNet) (q : FlowPart) → FlowPartFits net q → IsPiece (λ p. p.first) (λ p. p.end) (λ p. p.excess.items) (λ v. v) (node_count net) q
excess_piece net q fit = record { ordered = fit.ordered; within = fit.within; sized = fit.nodes }

-- a part holds a new label for each of its nodes
pub next_piece : (net : FlowNet) (q : FlowPart) → FlowPartFits net q → IsPiece (λ p. p.first) (λ p. p.end) (λ p. p.next.items) (λ v. v) (node_count net) q
next_piece net q fit = record { ordered = fit.ordered; within = fit.within; sized = omega (arith, fit.nodes, fit.same) }

-- some element of a list that has one
pub pick : {P : Type 0} (xs : List P) (i : ℕ) → i < length xs → P
pick {P} [] i h = absurd (omega arith)
pick {P} (x ∷ xs) i h = x

-- the row, the excess and the new label of node v, in the part that holds it and in the whole
pub record AtPart (net : FlowNet) (qs : List FlowPart) (v : ℕ) (q : FlowPart) : Type 0 where
  -- the part is one of the network's flow
  pub fit : FlowPartFits net q
  -- the node and its row have their places in the part
  pub within : Within net q.base q.first (part_cells q) v (v - q.first) (start net v - q.base)
  -- its row in the whole is its row in the part
  pub res : (j : ℕ) → j < row_len net v → slice_index (cells_of qs).residuals (start net v + j) ≡ slice_index q.residuals.items (start net v - q.base + j)
  -- its excess in the whole is its excess in the part
  pub excess : slice_index (cells_of qs).excess v ≡ slice_index q.excess.items (v - q.first)
  -- its new label in the whole is its new label in the part
  pub next : slice_index (cells_of qs).next v ≡ slice_index q.next.items (v - q.first)

-- the part that holds a node has its row, excess and new label as the whole has them
pub at_part : (net : FlowNet) (qs : List FlowPart) (v i : ℕ) (d : FlowPart) → IsFlowNet net → AreFlowParts net 0 qs → i < length qs → (get_or qs i d).first ≤ v → v < (get_or qs i d).end
    → AtPart net qs v (get_or qs i d)
at_part net qs v i d ok cut h lo hi = record {
  fit = fit;
  within = record { node = vn; at = omega (arith, lo); row = omega (arith, fit.based, low); in_rows = omega (arith, fit.sized, fit.based, low, top, up); in_nodes = omega (arith, fit.nodes, lo, hi) };
  res = λ j l. whole_at (FlowPartFits net) (λ p. p.first) (λ p. p.end) (λ p. p.residuals.items) (start net) (node_count net) (rising net ok) (res_piece net) 0 qs qs
      (left_all (FlowPartFits net) (λ p. p.first) (λ p. p.end) (λ p. p.residuals.items) (start net) (node_count net) qs (rising net ok) cut) i d h (start net v + j) (omega (arith, low)) (omega (arith, top, l))
      ∙ ap (λ (x : ℕ). slice_index (get_or qs i d).residuals.items x) (let e : start net v + j - start net (get_or qs i d).first ≡ start net v - (get_or qs i d).base + j = omega (arith, fit.based, low) in e);
  excess = whole_at (FlowPartFits net) (λ p. p.first) (λ p. p.end) (λ p. p.excess.items) (λ x. x) (node_count net) (by_node (node_count net)) (excess_piece net) 0 qs qs
      (left_all (FlowPartFits net) (λ p. p.first) (λ p. p.end) (λ p. p.excess.items) (λ x. x) (node_count net) qs (by_node (node_count net)) cut) i d h v lo hi;
  next = whole_at (FlowPartFits net) (λ p. p.first) (λ p. p.end) (λ p. p.next.items) (λ x. x) (node_count net) (by_node (node_count net)) (next_piece net) 0 qs qs
      (left_all (FlowPartFits net) (λ p. p.first) (λ p. p.end) (λ p. p.next.items) (λ x. x) (node_count net) qs (by_node (node_count net)) cut) i d h v lo hi;
}
  where
    fit : FlowPartFits net (get_or qs i d)
    fit = part_fits (FlowPartFits net) (λ p. p.first) (λ p. p.end) (node_count net) 0 qs cut i d h

    vn : v < node_count net
    vn = omega (arith, fit.within, hi)

    low : start net (get_or qs i d).first ≤ start net v
    low = ok.rows (get_or qs i d).first v lo (omega (arith, vn))

    top : start net (v + 1) ≤ start net (get_or qs i d).end
    top = ok.rows (v + 1) (get_or qs i d).end (omega (arith, hi)) fit.within

    up : start net v ≤ start net (v + 1)
    up = ok.rows v (v + 1) (omega arith) (omega (arith, vn))
