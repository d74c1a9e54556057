-- Rows that the last phase wrote are cleared, one by one, all or those that are listed.
use Rattle.std.proofs.Common.{◌≡◌, ℕ, ◌+◌, ◌-◌, ◌<◌, ◌≤◌, ◌⊎◌, true, List, length, slice_index, refl, arith, ap, ◌∙◌, subst, inl, inr}
use Rattle.std.specs.Vec.{with_items}
use Rattle.std.proofs.lemmas.Bool.{cases_lt}
use Rattle.std.proofs.lemmas.List.{with_items_is}
use Rattle.frame_net.specs.FlowNet.{FlowNet, start, row_len, IsFlowNet}
use Rattle.pulse_parts.specs.declared.parts.PushPart.{PushPart}
use Rattle.pulse_parts.specs.Listing.{IsListed, ListsPushing}
use Rattle.pulse_parts.specs.Parts.{PushPartFits}
use Rattle.pulse_parts.specs.Reading.{Clears, ClearsListed, PartCleared, RowsAreZero}

-- ---- listed rows

-- of no listed nodes no row is cleared
pub listed_none : (net : FlowNet) (base : ℕ) (list xs : List ℕ) → ClearsListed net base list 0 xs xs
listed_none net base list xs = record { same = refl; done = λ i k h l. absurd (omega (arith, h)); rest = λ x. inr refl }

-- a listed node's row that is cleared comes to those of the nodes before it
pub listed_more : (net : FlowNet) (base : ℕ) (list : List ℕ) (i v s e : ℕ) (old mid new : List ℕ) → v ≡ slice_index list i → s ≡ start net v → e ≡ start net (v + 1) → base ≤ start net v → start net v ≤ start net (v + 1)
    → ClearsListed net base list i old mid → Clears (s - base) (e - base) mid new → ClearsListed net base list (i + 1) old new
listed_more net base list i v s e old mid new ev es ee from up c cl = record {
  same = cl.same ∙ c.same;
  done = λ j k h l. elim (cases_lt j i) [
    | inl lt ↦ elim (now (start net (slice_index list j) + k - base)) [ inl nil ↦ nil | inr same ↦ same ∙ c.done j k lt l ]
    | inr ge ↦ let q : i ≡ j = omega (arith, ge, h) in at (slice_index list j) k (ev ∙ ap (slice_index list) q) l
  ];
  rest = λ x. elim (now x) [
    | inl nil ↦ inl nil
    | inr same ↦ elim (c.rest x) [ inl nil ↦ inl (same ∙ nil) | inr was ↦ inr (same ∙ was) ]
  ];
}
  where
    now : (x : ℕ) → (slice_index new x ≡ 0) ⊎ (slice_index new x ≡ slice_index mid x)
    now x = elim (cases_lt x (s - base)) [
      | inl lt ↦ inr (cl.kept x (inl lt))
      | inr ge ↦ elim (cases_lt x (e - base)) [ inl under ↦ inl (cl.done x ge under) | inr over ↦ inr (cl.kept x (inr over)) ]
    ]

    here : (k : ℕ) → k < row_len net v → slice_index new (start net v + k - base) ≡ 0
    here k l = cl.done (start net v + k - base) (omega (arith, es, from)) (omega (arith, ee, from, l, up))

    at : (u k : ℕ) → v ≡ u → k < row_len net u → slice_index new (start net u + k - base) ≡ 0
    at u k q = subst (λ (x : ℕ). k < row_len net x → slice_index new (start net x + k - base) ≡ 0) q (here k)

-- ---- parts

-- if each node is listed or has a row of 0s, to clear the listed rows is to clear all
pub listed_cleared : (net : FlowNet) (p : PushPart) (list was ws : List ℕ) → p.pushing.complete ≡ true → ListsPushing net p → list ≡ p.pushing.nodes.items → was ≡ p.values.items → length ws ≡ p.values.len → ClearsListed net p.base list (length list) was ws
    → PartCleared net p (record p { values = with_items p.values ws })
listed_cleared net p list was ws on lists el ew len c = record {
  same_worker = refl;
  same_first = refl;
  same_end = refl;
  same_base = refl;
  same_size = omega (arith, ap length items, c.same, ap length ew);
  zero = none;
  lists = record { within = lists.within; rest = λ h v lo hi. inr (λ k l. none v k lo hi l) };
}
  where
    items : (with_items p.values ws).items ≡ ws
    items = with_items_is p.values ws len

    listed : (v k : ℕ) → IsListed p.pushing.nodes.items v → k < row_len net v → slice_index ws (start net v + k - p.base) ≡ 0
    listed v k at l =
        let there : slice_index list at.place ≡ v = ap (λ (t : List ℕ). slice_index t at.place) el ∙ at.there in
        subst (λ (u : ℕ). k < row_len net u → slice_index ws (start net u + k - p.base) ≡ 0) there (c.done at.place k (omega (arith, at.inside, ap length el))) l

    none : RowsAreZero net p.base p.first p.end (with_items p.values ws).items
    none v k lo hi l = ap (λ (xs : List ℕ). slice_index xs (start net v + k - p.base)) items ∙ elim (lists.rest on v lo hi) [
      | inl at ↦ listed v k at l
      | inr off ↦ elim (c.rest (start net v + k - p.base)) [
        | inl nil ↦ nil
        | inr same ↦ same ∙ (ap (λ (xs : List ℕ). slice_index xs (start net v + k - p.base)) ew ∙ off k l)
      ]
    ]

-- a part whose values were all cleared is a cleared part
pub all_cleared : (net : FlowNet) (p : PushPart) (size : ℕ) (was ws : List ℕ) → IsFlowNet net → PushPartFits net p → was ≡ p.values.items → size ≡ length p.values.items → length ws ≡ p.values.len → Clears 0 size was ws
    → PartCleared net p (record p { values = with_items p.values ws })
all_cleared net p size was ws ok fit ew es len c = record {
  same_worker = refl;
  same_first = refl;
  same_end = refl;
  same_base = refl;
  same_size = omega (arith, ap length items, c.same, ap length ew);
  zero = none;
  lists = record { within = fit.lists.within; rest = λ h v lo hi. inr (λ k l. none v k lo hi l) };
}
  where
    items : (with_items p.values ws).items ≡ ws
    items = with_items_is p.values ws len

    none : RowsAreZero net p.base p.first p.end (with_items p.values ws).items
    none v k lo hi l = ap (λ (xs : List ℕ). slice_index xs (start net v + k - p.base)) items
        ∙ c.done (start net v + k - p.base) (omega arith)
        (omega (arith, es, fit.sized, fit.based, l, ok.rows p.first v lo (omega (arith, hi, fit.within)), ok.rows (v + 1) p.end (omega (arith, hi)) fit.within))
