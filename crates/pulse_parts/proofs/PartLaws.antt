-- A range of nodes, cut down to those of a part.
use Rattle.std.proofs.Common.{◌≡◌, ℕ, ◌+◌, min, max, List, length, arith, refl, ap, sym, ◌∙◌, subst, inl, inr}
use Rattle.std.specs.Vec.{with_items}
use Rattle.std.proofs.lemmas.List.{with_items_is}
use Rattle.frame_net.specs.FlowNet.{FlowNet}
use Rattle.pulse_parts.specs.declared.parts.FlowPart.{FlowPart}
use Rattle.pulse_parts.specs.Parts.{Cells, FlowPartFits, part_cells}
use Rattle.pulse_parts.specs.Delivering.{RangeDelivered, PartDelivered}

-- a range cut down to a part's nodes holds all of its nodes that the part has
pub given_clamped : (net : FlowNet) (labels pushes : List ℕ) (base pf pe first end : ℕ) (a b : Cells) → length a.excess + pf ≡ pe
    → RangeDelivered net labels pushes base pf (max first pf) (min end pe) a b → RangeDelivered net labels pushes base pf first end a b
given_clamped net labels pushes base pf pe first end a b size r = record {
  sizes = r.sizes;
  done = λ v i s w lo hi. r.done v i s w (omega (arith, w.at)) (omega (arith, w.at, w.in_nodes));
  kept = λ v i s w out. r.kept v i s w (elim out [ inl lt ↦ inl (omega arith) | inr ge ↦ inr (omega arith) ]);
}

abbrev pub cells : List ℕ → List ℕ → List ℕ → Cells
cells a b c = record { residuals = a; excess = b; next = c }

-- cells of equal residuals, excesses and new labels are equal
pub cells_same : (a b c x y z : List ℕ) → a ≡ x → b ≡ y → c ≡ z → cells a b c ≡ cells x y z
cells_same a b c x y z p q r = ap (λ (t : List ℕ). cells t b c) p ∙ (ap (λ (t : List ℕ). cells x t c) q ∙ ap (λ (t : List ℕ). cells x y t) r)

-- cells of a part that were delivered over what it has of a range make the part delivered over the
-- range
pub part_given : (net : FlowNet) (labels pushes : List ℕ) (first end low high : ℕ) (q : FlowPart) (rs es ns xs ys zs : List ℕ) → FlowPartFits net q
    → rs ≡ q.residuals.items → es ≡ q.excess.items → ns ≡ q.next.items → low ≡ max first q.first → high ≡ min end q.end
    → length xs ≡ q.residuals.len → length ys ≡ q.excess.len → length zs ≡ q.next.len
    → RangeDelivered net labels pushes q.base q.first low high (record { residuals = rs; excess = es; next = ns }) (record { residuals = xs; excess = ys; next = zs })
    → PartDelivered net labels pushes first end q (record q { residuals = with_items q.residuals xs; excess = with_items q.excess ys; next = with_items q.next zs })
part_given net labels pushes first end low high q rs es ns xs ys zs fit er ee en el eh lr le ln r =
    let old : cells rs es ns ≡ part_cells q = cells_same rs es ns q.residuals.items q.excess.items q.next.items er ee en in
    let new : cells xs ys zs ≡ part_cells (record q { residuals = with_items q.residuals xs; excess = with_items q.excess ys; next = with_items q.next zs }) =
    cells_same xs ys zs (with_items q.residuals xs).items (with_items q.excess ys).items (with_items q.next zs).items (sym (with_items_is q.residuals xs lr)) (sym (with_items_is q.excess ys le)) (sym (with_items_is q.next zs ln)) in
    let there : RangeDelivered net labels pushes q.base q.first (max first q.first) (min end q.end) (part_cells q) (record { residuals = xs; excess = ys; next = zs }) =
    subst (λ (m : Cells). RangeDelivered net labels pushes q.base q.first (max first q.first) (min end q.end) m (record { residuals = xs; excess = ys; next = zs })) old
    (subst (λ (x : ℕ). RangeDelivered net labels pushes q.base q.first x (min end q.end) (record { residuals = rs; excess = es; next = ns }) (record { residuals = xs; excess = ys; next = zs })) el
    (subst (λ (x : ℕ). RangeDelivered net labels pushes q.base q.first low x (record { residuals = rs; excess = es; next = ns }) (record { residuals = xs; excess = ys; next = zs })) eh r)) in
    record {
      same_worker = refl;
      same_first = refl;
      same_end = refl;
      same_base = refl;
      given = subst (λ (m : Cells). RangeDelivered net labels pushes q.base q.first first end (part_cells q) m) new
          (given_clamped net labels pushes q.base q.first q.end first end (part_cells q) (record { residuals = xs; excess = ys; next = zs }) fit.nodes there);
    }
