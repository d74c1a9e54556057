-- Parts whose new labels have become the labels are parts of their state, and their lists hold on.
use Rattle.std.proofs.Common.{◌≡◌, ℕ, suc, ◌-◌, ◌<◌, ◌≤◌, ◌++◌, ◌&&◌, nat_lt, Bool, true, false, List, [], ◌∷◌, length, slice_index, get_or, refl, arith, ap, sym, ◌∙◌, subst, inl, inr}
use Rattle.std.proofs.lemmas.Bool.{cases_Bool, false≢true, lt-ltb, ltb-true}
use Rattle.frame_net.specs.FlowNet.{FlowNet, node_count}
use Rattle.pulse_parts.specs.declared.parts.FlowPart.{FlowPart}
use Rattle.pulse_parts.specs.Listing.{ListActive, ListsActive, active_by}
use Rattle.pulse_parts.specs.Parts.{AreFlowParts, FlowPartFits, cells_of, pairs}
use Rattle.pulse_parts.proofs.PartsLeftLaws.{part_fits}
use Rattle.pulse_parts.specs.Labels.{HoldLabels, HoldsLabels}

holds_fits : (net : FlowNet) (labels : List ℕ) (q u : FlowPart) → FlowPartFits net q → HoldsLabels labels q u → FlowPartFits net u
holds_fits net labels q u fit h =
    subst (λ (p : FlowPart). FlowPartFits net p) (sym h.same)
    record { ordered = fit.ordered; within = fit.within; based = fit.based; sized = fit.sized; nodes = fit.nodes; same = h.sized ∙ fit.same }

-- parts whose new labels have become the labels still hold the network's nodes, end to end
pub held_cut : (net : FlowNet) (labels : List ℕ) (v : ℕ) (qs us : List FlowPart) → length us ≡ length qs → HoldLabels labels qs us → AreFlowParts net v qs → AreFlowParts net v us
held_cut net labels v [] [] len h cut = cut
held_cut net labels v [] (u ∷ us) len h cut = absurd (omega (arith, len))
held_cut net labels v (q ∷ qs) [] len h cut = absurd (omega (arith, len))
held_cut net labels v (q ∷ qs) (u ∷ us) len h cut =
    let one : HoldsLabels labels q u = h 0 q (omega arith) in (
      ap (λ (p : FlowPart). p.first) one.same ∙ cut.0,
      (
        holds_fits net labels q u cut.1.0 one,
        subst (λ (x : ℕ). AreFlowParts net x us) (sym (ap (λ (p : FlowPart). p.end) one.same)) (held_cut net labels q.end qs us (omega (arith, len)) (λ i d l. h (suc i) d (omega arith)) cut.1.1),
      ),
    )

held_residuals : (labels : List ℕ) (qs us : List FlowPart) → length us ≡ length qs → HoldLabels labels qs us → (cells_of us).residuals ≡ (cells_of qs).residuals
held_residuals labels [] [] len h = refl
held_residuals labels [] (u ∷ us) len h = absurd (omega (arith, len))
held_residuals labels (q ∷ qs) [] len h = absurd (omega (arith, len))
held_residuals labels (q ∷ qs) (u ∷ us) len h =
    let one : HoldsLabels labels q u = h 0 q (omega arith) in
    ap (λ (p : FlowPart). p.residuals.items ++ (cells_of us).residuals) one.same
    ∙ ap (λ (x : List ℕ). q.residuals.items ++ x) (held_residuals labels qs us (omega (arith, len)) (λ i d l. h (suc i) d (omega arith)))

held_excess : (labels : List ℕ) (qs us : List FlowPart) → length us ≡ length qs → HoldLabels labels qs us → (cells_of us).excess ≡ (cells_of qs).excess
held_excess labels [] [] len h = refl
held_excess labels [] (u ∷ us) len h = absurd (omega (arith, len))
held_excess labels (q ∷ qs) [] len h = absurd (omega (arith, len))
held_excess labels (q ∷ qs) (u ∷ us) len h =
    let one : HoldsLabels labels q u = h 0 q (omega arith) in
    ap (λ (p : FlowPart). p.excess.items ++ (cells_of us).excess) one.same
    ∙ ap (λ (x : List ℕ). q.excess.items ++ x) (held_excess labels qs us (omega (arith, len)) (λ i d l. h (suc i) d (omega arith)))

pair_state : (net : FlowNet) (rs xs es ds ls : List ℕ) → rs ≡ xs → es ≡ ds → pairs net (record { residuals = rs; excess = es; next = [] }) ls ≡ pairs net (record { residuals = xs; excess = ds; next = [] }) ls
pair_state net rs xs es ds ls p q =
    ap (λ (x : List ℕ). pairs net (record { residuals = x; excess = es; next = [] }) ls) p ∙ ap (λ (x : List ℕ). pairs net (record { residuals = xs; excess = x; next = [] }) ls) q

-- parts whose new labels have become the labels keep their state
pub held_state : (net : FlowNet) (labels ls : List ℕ) (qs us : List FlowPart) → length us ≡ length qs → HoldLabels labels qs us → pairs net (cells_of us) ls ≡ pairs net (cells_of qs) ls
held_state net labels ls qs us len h =
    pair_state net (cells_of us).residuals (cells_of qs).residuals (cells_of us).excess (cells_of qs).excess ls (held_residuals labels qs us len h) (held_excess labels qs us len h)

-- a node that isn't active isn't active by a higher label
and_three : (a b c d : Bool) → (c ≡ true → d ≡ true) → a && b && d ≡ false → a && b && c ≡ false
and_three false b c d up off = refl
and_three true false c d up off = refl
and_three true true c d up off = elim (cases_Bool c) [
  | inl on ↦ absurd (false≢true (sym off ∙ up on))
  | inr is ↦ is
]

stays_inactive : (n v e l m : ℕ) → l ≤ m → active_by n v e l ≡ false → active_by n v e m ≡ false
stays_inactive n v e l m up off = and_three (nat_lt 1 v) (nat_lt 0 e) (nat_lt m n) (nat_lt l n) (λ on. lt-ltb l n (let h : m < n = ltb-true m n on in omega (arith, up, h))) off

holds_lists : (n end : ℕ) (labels olds : List ℕ) (q u : FlowPart) → q.end ≤ end → HoldsLabels labels q u → ((v : ℕ) → v < end → slice_index olds v ≤ slice_index labels v) → ListsActive n olds q → ListsActive n labels u
holds_lists n end labels olds q u inside h up was =
    subst (λ (p : FlowPart). ListsActive n labels p) (sym h.same) record {
      within = was.within;
      rising = was.rising;
      rest = λ done v lo hi. elim (was.rest done v lo hi) [
        | inl at ↦ inl at
        | inr off ↦ inr (stays_inactive n v (slice_index q.excess.items (v - q.first)) (slice_index olds v) (slice_index labels v) (up v (omega (arith, hi, inside))) off)
      ];
      next = λ done v lo hi. h.here v lo hi;
    }

-- labels that don't fall leave the lists complete
pub held_lists : (net : FlowNet) (n : ℕ) (labels olds : List ℕ) (qs us : List FlowPart) → AreFlowParts net 0 qs → length us ≡ length qs → HoldLabels labels qs us
    → ((v : ℕ) → v < node_count net → slice_index olds v ≤ slice_index labels v) → ListActive n olds qs → ListActive n labels us
held_lists net n labels olds qs us cut len h up lists i d l =
    let inside : i < length qs = omega (arith, l, len) in
    let fit : FlowPartFits net (get_or qs i d) = part_fits (FlowPartFits net) (λ q. q.first) (λ q. q.end) (node_count net) 0 qs cut i d inside in
    holds_lists n (node_count net) labels olds (get_or qs i d) (get_or us i d) fit.within (h i d inside) up (lists i d inside)
