-- Deliveries of each part are a delivery of the whole.
use Rattle.std.proofs.Common.{◌≡◌, ℕ, suc, ◌+◌, ◌-◌, ◌<◌, ◌≤◌, List, [], ◌∷◌, length, slice_index, get_or, arith, ap, sym, ◌∙◌, subst, ◌⊎◌}
use Rattle.frame_net.specs.FlowNet.{FlowNet, node_count, start, IsFlowNet}
use Rattle.pulse_parts.specs.declared.parts.FlowPart.{FlowPart}
use Rattle.pulse_parts.specs.Parts.{FlowPartFits, AreFlowParts, part_cells, cells_of}
use Rattle.pulse_parts.specs.Delivering.{own, back, delivered_excess, delivered_label, NodeDelivered, NodeKept, PartDelivered, PartsDelivered}
use Rattle.pulse_parts.proofs.PartsLeftLaws.{Holds, find_part}
use Rattle.pulse_parts.proofs.JoinedPartLaws.{AtPart, at_part, pick}
use Rattle.pulse_parts.proofs.DeliveredRangeLaws.{label_rows}

-- ---- parts stay a cut

fits_given : (net : FlowNet) (labels pushes : List ℕ) (first end : ℕ) (q r : FlowPart) → FlowPartFits net q → PartDelivered net labels pushes first end q r → FlowPartFits net r
fits_given net labels pushes first end q r fit g = record {
  ordered = omega (arith, g.same_first, g.same_end, fit.ordered);
  within = omega (arith, g.same_end, fit.within);
  based = g.same_base ∙ (fit.based ∙ ap (λ (x : ℕ). start net x) (sym g.same_first));
  sized = omega (arith, g.given.sizes.residuals, fit.sized, ap (λ (x : ℕ). start net x) g.same_first, ap (λ (x : ℕ). start net x) g.same_end);
  nodes = omega (arith, g.given.sizes.excess, fit.nodes, g.same_first, g.same_end);
  same = g.given.sizes.next ∙ (fit.same ∙ sym g.given.sizes.excess);
}

-- after a delivery the parts still hold the network's nodes, end to end
pub cut_after_give : (net : FlowNet) (labels pushes : List ℕ) (first end v : ℕ) (qs rs : List FlowPart) → AreFlowParts net v qs → length rs ≡ length qs
    → PartsDelivered net labels pushes first end qs rs → AreFlowParts net v rs
cut_after_give net labels pushes first end v [] [] cut len g = cut
cut_after_give net labels pushes first end v [] (r ∷ rs) cut len g = absurd (omega (arith, len))
cut_after_give net labels pushes first end v (q ∷ qs) [] cut len g = absurd (omega (arith, len))
cut_after_give net labels pushes first end v (q ∷ qs) (r ∷ rs) cut len g =
    let one : PartDelivered net labels pushes first end q r = g 0 q (omega arith) in (
      one.same_first ∙ cut.0,
      (
        fits_given net labels pushes first end q r cut.1.0 one,
        subst (λ (x : ℕ). AreFlowParts net x rs) (sym one.same_end) (cut_after_give net labels pushes first end q.end qs rs cut.1.1 (omega (arith, len)) (λ i d h. g (suc i) d (omega arith))),
      ),
    )

-- ---- all parts, as the whole

-- a node of the range that the parts delivered is delivered in the whole
pub whole_given : (net : FlowNet) (labels pushes : List ℕ) (first end : ℕ) (qs rs : List FlowPart) → IsFlowNet net → AreFlowParts net 0 qs → length rs ≡ length qs
    → PartsDelivered net labels pushes first end qs rs → (v : ℕ) → v < node_count net → first ≤ v → v < end → NodeDelivered net labels pushes v v (start net v) (cells_of qs) (cells_of rs)
whole_given net labels pushes first end qs rs ok cut len gives v vn fv ve =
    let h : Holds (λ p. p.first) (λ p. p.end) qs v = find_part (FlowPartFits net) (λ p. p.first) (λ p. p.end) (node_count net) 0 qs cut v (omega arith) vn in
    let d : FlowPart = pick qs h.index h.lt in
    at h.index d h.lt (h.low d) (h.high d)
  where
    at : (i : ℕ) (d : FlowPart) → i < length qs → (get_or qs i d).first ≤ v → v < (get_or qs i d).end → NodeDelivered net labels pushes v v (start net v) (cells_of qs) (cells_of rs)
    at i d h lo hi =
        let g : PartDelivered net labels pushes first end (get_or qs i d) (get_or rs i d) = gives i d h in
        let cut2 : AreFlowParts net 0 rs = cut_after_give net labels pushes first end 0 qs rs cut len gives in
        let a : AtPart net qs v (get_or qs i d) = at_part net qs v i d ok cut h lo hi in
        let b : AtPart net rs v (get_or rs i d) = at_part net rs v i d ok cut2 (omega (arith, h, len)) (omega (arith, g.same_first, lo)) (omega (arith, g.same_end, hi)) in
        let n : NodeDelivered net labels pushes v (v - (get_or qs i d).first) (start net v - (get_or qs i d).base) (part_cells (get_or qs i d)) (part_cells (get_or rs i d)) =
        g.given.done v (v - (get_or qs i d).first) (start net v - (get_or qs i d).base) a.within fv ve in
        let place : v - (get_or rs i d).first ≡ v - (get_or qs i d).first = ap (λ (x : ℕ). v - x) g.same_first in
        record {
          row = λ k l. b.res k l ∙ (ap (λ (x : ℕ). slice_index (get_or rs i d).residuals.items (start net v - x + k)) g.same_base
              ∙ (n.row k l ∙ ap (λ (z : ℕ). (z + back net pushes v k) - own net pushes v k) (sym (a.res k l))));
          excess = b.excess ∙ (ap (λ (x : ℕ). slice_index (get_or rs i d).excess.items x) place ∙ (n.excess ∙ ap (delivered_excess net pushes v) (sym a.excess)));
          next = b.next ∙ (ap (λ (x : ℕ). slice_index (get_or rs i d).next.items x) place ∙ (n.next
              ∙ (ap (delivered_label net labels pushes v (λ j. slice_index (get_or qs i d).residuals.items (start net v - (get_or qs i d).base + j))) (sym a.excess)
              ∙ label_rows net labels pushes v (slice_index (cells_of qs).excess v) (λ j. slice_index (get_or qs i d).residuals.items (start net v - (get_or qs i d).base + j))
              (λ j. slice_index (cells_of qs).residuals (start net v + j)) (λ j l. sym (a.res j l)))));
        }

-- the other nodes are as they were
pub whole_kept : (net : FlowNet) (labels pushes : List ℕ) (first end : ℕ) (qs rs : List FlowPart) → IsFlowNet net → AreFlowParts net 0 qs → length rs ≡ length qs
    → PartsDelivered net labels pushes first end qs rs → (v : ℕ) → v < node_count net → (v < first) ⊎ (end ≤ v) → NodeKept net v v (start net v) (cells_of qs) (cells_of rs)
whole_kept net labels pushes first end qs rs ok cut len gives v vn out =
    let h : Holds (λ p. p.first) (λ p. p.end) qs v = find_part (FlowPartFits net) (λ p. p.first) (λ p. p.end) (node_count net) 0 qs cut v (omega arith) vn in
    let d : FlowPart = pick qs h.index h.lt in
    at h.index d h.lt (h.low d) (h.high d)
  where
    at : (i : ℕ) (d : FlowPart) → i < length qs → (get_or qs i d).first ≤ v → v < (get_or qs i d).end → NodeKept net v v (start net v) (cells_of qs) (cells_of rs)
    at i d h lo hi =
        let g : PartDelivered net labels pushes first end (get_or qs i d) (get_or rs i d) = gives i d h in
        let cut2 : AreFlowParts net 0 rs = cut_after_give net labels pushes first end 0 qs rs cut len gives in
        let a : AtPart net qs v (get_or qs i d) = at_part net qs v i d ok cut h lo hi in
        let b : AtPart net rs v (get_or rs i d) = at_part net rs v i d ok cut2 (omega (arith, h, len)) (omega (arith, g.same_first, lo)) (omega (arith, g.same_end, hi)) in
        let n : NodeKept net v (v - (get_or qs i d).first) (start net v - (get_or qs i d).base) (part_cells (get_or qs i d)) (part_cells (get_or rs i d)) =
        g.given.kept v (v - (get_or qs i d).first) (start net v - (get_or qs i d).base) a.within out in
        let place : v - (get_or rs i d).first ≡ v - (get_or qs i d).first = ap (λ (x : ℕ). v - x) g.same_first in
        record {
          row = λ k l. b.res k l ∙ (ap (λ (x : ℕ). slice_index (get_or rs i d).residuals.items (start net v - x + k)) g.same_base ∙ (n.row k l ∙ sym (a.res k l)));
          excess = b.excess ∙ (ap (λ (x : ℕ). slice_index (get_or rs i d).excess.items x) place ∙ (n.excess ∙ sym a.excess));
          next = b.next ∙ (ap (λ (x : ℕ). slice_index (get_or rs i d).next.items x) place ∙ (n.next ∙ sym a.next));
        }
