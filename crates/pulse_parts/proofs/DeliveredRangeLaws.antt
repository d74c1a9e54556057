-- Deliveries of a range, node after node, and of ranges end to end.
use Rattle.std.proofs.Common.{◌≡◌, ℕ, ◌+◌, ◌-◌, ◌<◌, ◌≤◌, ◌&&◌, ◌≢◌, nat_lt, cond, List, length, slice_index, slice_set, take, drop, arith, refl, ap, sym, ◌∙◌, subst, inl, inr, ◌⊎◌, get_or-set_other, get_or-set_same}
use Rattle.std.proofs.lemmas.Bool.{cases_lt}
use Rattle.std.proofs.lemmas.List.{length-set}
use borrow.Rule.Slice.PartMut.{put_mid}
use Rattle.frame_net.proofs.OrderLaws.{least_below-same}
use Rattle.frame_net.specs.FlowNet.{FlowNet, node_count, start, row_len, head, IsFlowNet}
use Rattle.pulse_parts.specs.Delivering.{own, back, row_outflow, delivered_res, delivered_excess, delivered_label, NodeSafe, NodeDelivered, NodeKept, SameSizes, RangeDelivered, RangeSafe}
use Rattle.pulse_parts.specs.Parts.{Cells, Within, RangeFits}
use Rattle.pulse_parts.proofs.PutLaws.{put_in, put_below, put_above, put_len}
use Rattle.pulse_parts.proofs.RowSliceLaws.{cut_at}

-- two rows that agree are delivered alike
pub label_rows : (net : FlowNet) (labels xs : List ℕ) (v e : ℕ) (r q : ℕ → ℕ) → ((k : ℕ) → k < row_len net v → r k ≡ q k) → delivered_label net labels xs v r e ≡ delivered_label net labels xs v q e
label_rows net labels xs v e r q h =
    ap (λ (y : ℕ). cond (nat_lt 1 v && nat_lt 0 e && nat_lt (slice_index labels v) (node_count net) && nat_lt (row_outflow net xs v) e) y (slice_index labels v))
    (least_below-same (row_len net v) (λ k. cond (nat_lt 0 (delivered_res net xs v r k)) (slice_index labels (head net v k) + 1) (node_count net))
    (λ k. cond (nat_lt 0 (delivered_res net xs v q k)) (slice_index labels (head net v k) + 1) (node_count net)) (node_count net)
    (λ k l. ap (λ (x : ℕ). cond (nat_lt 0 ((x + back net xs v k) - own net xs v k)) (slice_index labels (head net v k) + 1) (node_count net)) (h k l)))

-- if two rows and excesses agree, a node that can be delivered by the one can be by the other
pub safe_rows : (net : FlowNet) (xs : List ℕ) (v e d : ℕ) (r q : ℕ → ℕ) → ((k : ℕ) → k < row_len net v → r k ≡ q k) → e ≡ d → NodeSafe net xs v r e → NodeSafe net xs v q d
safe_rows net xs v e d r q h g safe = record {
  owns = λ k l. omega (arith, safe.owns k l, h k l);
  residuals_fit = λ k l. omega (arith, safe.residuals_fit k l, h k l);
  sends = omega (arith, safe.sends);
  excess_fits = omega (arith, safe.excess_fits);
}

get_or-set_other_at : (xs : List ℕ) (a i x : ℕ) → i ≢ a → slice_index (slice_set xs a x) i ≡ slice_index xs i
get_or-set_other_at xs a i x ne = rw get_or-set_other refl

-- where a node and its row lie
pub record Lies (net : FlowNet) (base first : ℕ) (c : Cells) (v i s : ℕ) : Type 0 where
  -- the cells hold the node and its row
  pub inside : Within net base first c v i s
  -- the node's place is counted from the first node
  pub place : i ≡ v - first
  -- the row's place is counted from the first arc
  pub begins : s ≡ start net v - base

-- each node of a range that the cells hold has its places in them
pub lies : (net : FlowNet) (base first low high : ℕ) (c : Cells) (v : ℕ) → IsFlowNet net → RangeFits net base first low high c → low ≤ v → v < high → Lies net base first c v (v - first) (start net v - base)
lies net base first low high c v ok fit lo hi =
    let from : start net low ≤ start net v = ok.rows low v lo (omega (arith, fit.within)) in
    let to : start net (v + 1) ≤ start net high = ok.rows (v + 1) high (omega arith) fit.within in
    let up : start net v ≤ start net (v + 1) = ok.rows v (v + 1) (omega arith) (omega (arith, fit.within)) in
    record {
      inside = record {
        node = omega (arith, fit.within);
        at = omega (arith, fit.from_node);
        row = omega (arith, fit.from_arc, from);
        in_rows = omega (arith, fit.from_arc, fit.to_arc, from, to, up);
        in_nodes = omega (arith, fit.from_node, fit.to_node);
      };
      place = refl;
      begins = refl;
    }

-- what stands in the row that is cut out
pub cut_row : (net : FlowNet) (base first : ℕ) (c : Cells) (v s e : ℕ) → IsFlowNet net → s ≡ start net v → e ≡ start net (v + 1)
    → Within net base first c v (v - first) (start net v - base)
    → (k : ℕ) → k < row_len net v → slice_index (take (e - base - (s - base)) (drop (s - base) c.residuals)) k ≡ slice_index c.residuals (start net v - base + k)
cut_row net base first c v s e ok es ee w k kl =
    let up : start net v ≤ start net (v + 1) = ok.rows v (v + 1) (omega arith) (omega (arith, w.node)) in
    cut_at c.residuals (s - base) (e - base - (s - base)) k (omega (arith, w.in_rows, w.row, up)) (omega (arith, w.row, up))
    ∙ ap (λ (x : ℕ). slice_index c.residuals x) (let q : s - base + k ≡ start net v - base + k = omega arith in q)

-- one node's row, excess and label are written
pub one_given : (net : FlowNet) (labels xs : List ℕ) (base first v s e a : ℕ) (c : Cells) (row : List ℕ) (x y had : ℕ) → IsFlowNet net
    → RangeFits net base first v (v + 1) c → s ≡ start net v → e ≡ start net (v + 1) → a ≡ v - first → had ≡ slice_index c.excess (v - first) → length row ≡ row_len net v
    → x ≡ delivered_excess net xs v had
    → y ≡ delivered_label net labels xs v (slice_index (take (e - base - (s - base)) (drop (s - base) c.residuals))) had
    → ((k : ℕ) → k < row_len net v → slice_index row k ≡ delivered_res net xs v (slice_index (take (e - base - (s - base)) (drop (s - base) c.residuals))) k)
    → RangeDelivered net labels xs base first v (v + 1) c
    (record { residuals = put_mid (s - base) (e - base - (s - base)) c.residuals row; excess = slice_set c.excess a x; next = slice_set c.next a y })
one_given net labels xs base first v s e a c row x y had ok fit es ee ea eh len ex ey er = record {
  sizes = record { residuals = sized; excess = length-set c.excess a x; next = length-set c.next a y };
  done = λ u i t w lo hi. at_v u i t w (omega arith);
  kept = λ u i t w out. other u i t w out;
}
  where
    there : Within net base first c v (v - first) (start net v - base)
    there = (lies net base first v (v + 1) c v ok fit (omega arith) (omega arith)).inside

    up : start net v ≤ start net (v + 1)
    up = ok.rows v (v + 1) (omega arith) fit.within

    fits : (s - base) + (e - base - (s - base)) ≤ length c.residuals
    fits = omega (arith, there.in_rows, there.row, up)

    lens : length row ≡ e - base - (s - base)
    lens = omega (arith, there.row, up)

    sized : length (put_mid (s - base) (e - base - (s - base)) c.residuals row) ≡ length c.residuals
    sized = put_len (s - base) (e - base - (s - base)) c.residuals row fits lens

    old_row : (k : ℕ) → k < row_len net v → slice_index (take (e - base - (s - base)) (drop (s - base) c.residuals)) k ≡ slice_index c.residuals (start net v - base + k)
    old_row = cut_row net base first c v s e ok es ee there

    new : Cells
    new = record { residuals = put_mid (s - base) (e - base - (s - base)) c.residuals row; excess = slice_set c.excess a x; next = slice_set c.next a y }

    given_v : NodeDelivered net labels xs v (v - first) (start net v - base) c new
    given_v = record {
      row = λ k l. (ap (λ (z : ℕ). slice_index (put_mid (s - base) (e - base - (s - base)) c.residuals row) z) (let q : start net v - base + k ≡ s - base + k = omega arith in q)
          ∙ put_in (s - base) (e - base - (s - base)) c.residuals row k fits lens (omega (arith, len)))
          ∙ (er k l ∙ ap (λ (z : ℕ). (z + back net xs v k) - own net xs v k) (old_row k l));
      excess = ap (λ (z : ℕ). slice_index (slice_set c.excess z x) (v - first)) ea ∙ (get_or-set_same c.excess (v - first) x 0 there.in_nodes ∙ (ex ∙ ap (delivered_excess net xs v) eh));
      next = ap (λ (z : ℕ). slice_index (slice_set c.next z y) (v - first)) ea ∙ (get_or-set_same c.next (v - first) y 0 (omega (arith, there.in_nodes, fit.same))
          ∙ (ey ∙ (label_rows net labels xs v had (slice_index (take (e - base - (s - base)) (drop (s - base) c.residuals))) (λ j. slice_index c.residuals (start net v - base + j)) old_row
          ∙ ap (delivered_label net labels xs v (λ j. slice_index c.residuals (start net v - base + j))) eh)));
    }

    at_v : (u i t : ℕ) → Within net base first c u i t → u ≡ v → NodeDelivered net labels xs u i t c new
    at_v u i t w q =
        let pi : v - first ≡ i = omega (arith, w.at) in
        let ps : start net v - base ≡ t = omega (arith, w.row, ap (λ (z : ℕ). start net z) q) in
        subst (λ (z : ℕ). NodeDelivered net labels xs u i z c new) ps (subst (λ (z : ℕ). NodeDelivered net labels xs u z (start net v - base) c new) pi
        (subst (λ (z : ℕ). NodeDelivered net labels xs z (v - first) (start net v - base) c new) (sym q) given_v))

    other : (u i t : ℕ) → Within net base first c u i t → (u < v) ⊎ (v + 1 ≤ u) → NodeKept net u i t c new
    other u i t w out = record {
      row = λ k l. elim out [
        | inl lt ↦ let before : start net (u + 1) ≤ start net v = ok.rows (u + 1) v (omega arith) (omega (arith, fit.within)) in
            put_below (s - base) (e - base - (s - base)) c.residuals row (t + k) fits lens (omega (arith, w.row, before, l))
        | inr gt ↦ let after : start net (v + 1) ≤ start net u = ok.rows (v + 1) u gt (omega (arith, w.node)) in
            put_above (s - base) (e - base - (s - base)) c.residuals row (t + k) fits lens (omega (arith, w.row, after, up, there.row))
      ];
      excess = let ne : i ≢ a = apart in get_or-set_other_at c.excess a i x ne;
      next = let ne : i ≢ a = apart in get_or-set_other_at c.next a i y ne;
    }
      where
        apart : i ≢ a
        apart = λ q. elim out [ inl lt ↦ omega (arith, w.at, fit.from_node) | inr gt ↦ omega (arith, w.at, fit.from_node) ]

-- a node that is written in the first range is kept in the second, and the other way round
pub within_after : (net : FlowNet) (base first : ℕ) (a b : Cells) (v i s : ℕ) → SameSizes a b → Within net base first a v i s → Within net base first b v i s
within_after net base first a b v i s same w = record { node = w.node; at = w.at; row = w.row; in_rows = omega (arith, same.residuals, w.in_rows); in_nodes = omega (arith, same.excess, w.in_nodes) }

-- a node that is delivered and then kept is delivered
pub given_then_kept : (net : FlowNet) (labels xs : List ℕ) (v i s : ℕ) (a b c : Cells) → NodeDelivered net labels xs v i s a b → NodeKept net v i s b c → NodeDelivered net labels xs v i s a c
given_then_kept net labels xs v i s a b c g k = record { row = λ j l. k.row j l ∙ g.row j l; excess = k.excess ∙ g.excess; next = k.next ∙ g.next }

-- a node that is kept and then delivered is delivered
pub kept_then_given : (net : FlowNet) (labels xs : List ℕ) (v i s : ℕ) (a b c : Cells) → NodeKept net v i s a b → NodeDelivered net labels xs v i s b c → NodeDelivered net labels xs v i s a c
kept_then_given net labels xs v i s a b c k g = record {
  row = λ j l. g.row j l ∙ ap (λ (z : ℕ). (z + back net xs v j) - own net xs v j) (k.row j l);
  excess = g.excess ∙ ap (delivered_excess net xs v) k.excess;
  next = g.next ∙ (ap (delivered_label net labels xs v (λ j. slice_index b.residuals (s + j))) k.excess
      ∙ label_rows net labels xs v (slice_index a.excess i) (λ j. slice_index b.residuals (s + j)) (λ j. slice_index a.residuals (s + j)) k.row);
}

-- deliveries of two ranges end to end are one of both
pub range_then : (net : FlowNet) (labels xs : List ℕ) (base first low mid high : ℕ) (a b c : Cells) → low ≤ mid → mid ≤ high
    → RangeDelivered net labels xs base first low mid a b → RangeDelivered net labels xs base first mid high b c → RangeDelivered net labels xs base first low high a c
range_then net labels xs base first low mid high a b c lm mh p q = record {
  sizes = record { residuals = q.sizes.residuals ∙ p.sizes.residuals; excess = q.sizes.excess ∙ p.sizes.excess; next = q.sizes.next ∙ p.sizes.next };
  done = λ v i s w lo hi. let u = within_after net base first a b v i s p.sizes w in elim (cases_lt v mid) [
    | inl lt ↦ given_then_kept net labels xs v i s a b c (p.done v i s w lo lt) (q.kept v i s u (inl lt))
    | inr ge ↦ kept_then_given net labels xs v i s a b c (p.kept v i s w (inr ge)) (q.done v i s u ge hi)
  ];
  kept = λ v i s w out.
      let u = within_after net base first a b v i s p.sizes w in
      let one : NodeKept net v i s a b = p.kept v i s w (elim out [ inl lt ↦ inl lt | inr ge ↦ inr (omega arith) ]) in
      let two : NodeKept net v i s b c = q.kept v i s u (elim out [ inl lt ↦ inl (omega arith) | inr ge ↦ inr ge ]) in
      record { row = λ j l. two.row j l ∙ one.row j l; excess = two.excess ∙ one.excess; next = two.next ∙ one.next };
}

-- after the nodes before it are delivered, the next node of a range can still be
pub safe_after : (net : FlowNet) (labels xs : List ℕ) (base first low high mid : ℕ) (a b : Cells) → low ≤ mid → mid < high
    → RangeSafe net xs base first low high a → RangeDelivered net labels xs base first low mid a b → RangeSafe net xs base first mid (mid + 1) b
safe_after net labels xs base first low high mid a b lm mh safe p = λ v i s w lo hi.
    let u = within_after net base first b a v i s (record { residuals = sym p.sizes.residuals; excess = sym p.sizes.excess; next = sym p.sizes.next }) w in
    let k : NodeKept net v i s a b = p.kept v i s u (inr lo) in
    safe_rows net xs v (slice_index a.excess i) (slice_index b.excess i) (λ j. slice_index a.residuals (s + j)) (λ j. slice_index b.residuals (s + j)) (λ j l. sym (k.row j l)) (sym k.excess)
    (safe v i s u (omega arith) (omega arith))

-- the node of a range of one, as deliver_node asks it
pub one_safe : (net : FlowNet) (xs : List ℕ) (base first v s e had : ℕ) (c : Cells) → IsFlowNet net → RangeFits net base first v (v + 1) c → s ≡ start net v → e ≡ start net (v + 1)
    → had ≡ slice_index c.excess (v - first) → RangeSafe net xs base first v (v + 1) c → NodeSafe net xs v (slice_index (take (e - base - (s - base)) (drop (s - base) c.residuals))) had
one_safe net xs base first v s e had c ok fit es ee eh safe =
    let w = (lies net base first v (v + 1) c v ok fit (omega arith) (omega arith)).inside in
    safe_rows net xs v (slice_index c.excess (v - first)) had (λ j. slice_index c.residuals (start net v - base + j)) (slice_index (take (e - base - (s - base)) (drop (s - base) c.residuals)))
    (λ k l. sym (cut_row net base first c v s e ok es ee w k l)) (sym eh) (safe v (v - first) (start net v - base) w (omega arith) (omega arith))
