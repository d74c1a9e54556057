-- Positions in a list that has no number twice, and in that list with its end in another order.
use Rattle.std.proofs.Common.{ℕ, suc, ◌+◌, ◌-◌, ◌<◌, ◌≤◌, ◌≡◌, ◌≢◌, List, [], ◌∷◌, ◌++◌, length, get_or, slice_get, slice_index, AllPairs, Bool, true, false, not, cond, nat_eq, nat_lt, ◌==◌, ◌||◌, Option, Some, None, position, refl, sym, ap, ◌∙◌, inl, inr, length-append, arith}
use Rattle.std.specs.List.{position_or_len}
use Rattle.std.proofs.lemmas.Bool.{cases_lt, lt-ltb, le-ltb, ne_eqb, eq-eqb, eqb-true, cond-true, cond-false}
use Rattle.std.proofs.lemmas.List.{get_or_append_left, get_or-append-add}
use Rattle.std.proofs.lemmas.List.Sums.{position_or_len_is}
use Rattle.std.proofs.lemmas.List.Quantifiers.{position-Some}
use Rattle.std.proofs.lemmas.Option.{get_or_from_slice_get, slice_get_within, slice_get-get_or}
use Rattle.aig_graph.specs.Marking.{has}

-- ---- a number's position

-- a number that stands at a place, and at none before it, has this place as its position
pub position_is : (xs : List ℕ) (v k : ℕ) → k < length xs → get_or xs k 0 ≡ v → ((j : ℕ) → j < k → get_or xs j 0 ≢ v) → position (λ w. w == v) xs ≡ Some k
position_is xs v k within here before =
    let at : position_or_len (λ w. w == v) xs ≡ k
    = position_or_len_is (λ w. w == v) xs k 0 (omega (arith, within)) (λ j less. ne_eqb (get_or xs j 0) v (before j less)) (λ _. eq-eqb (get_or xs k 0) v here) in
    cond-true _ _ _ (lt-ltb (position_or_len (λ w. w == v) xs) (length xs) (omega (arith, at, within))) ∙ ap (λ n. Some n) at

-- a number that stands at no place has no position
pub position_none : (xs : List ℕ) (v : ℕ) → ((j : ℕ) → j < length xs → get_or xs j 0 ≢ v) → position (λ w. w == v) xs ≡ None
position_none xs v none =
    let past : length xs < length xs → nat_eq (get_or xs (length xs) 0) v ≡ true = λ less. absurd (omega (arith, less)) in
    let at : position_or_len (λ w. w == v) xs ≡ length xs
    = position_or_len_is (λ w. w == v) xs (length xs) 0 (omega arith) (λ j less. ne_eqb (get_or xs j 0) v (none j less)) past in
    cond-false _ _ _ (le-ltb (position_or_len (λ w. w == v) xs) (length xs) (omega (arith, at)))

-- a number stands at its position, which is within the list
pub position_at : (xs : List ℕ) (v k : ℕ) → position (λ w. w == v) xs ≡ Some k → (k < length xs) × (get_or xs k 0 ≡ v)
position_at xs v k is = let parts = position-Some (λ w. w == v) xs k 0 is in (parts.0, eqb-true (get_or xs k 0) v parts.1)

-- whether a number is in a list, by its position
abbrev is_found : Option ℕ → Bool
is_found None = false
is_found (Some k) = true

cond_shift : (same : Bool) (n : ℕ) (xs : List ℕ) → nat_lt (cond (not same) (1 + n) 0) (1 + length xs) ≡ (same || nat_lt n (length xs))
cond_shift true n xs = lt-ltb 0 (1 + length xs) (omega arith)
cond_shift false n xs = elim (cases_lt n (length xs)) [
  | inl less ↦ lt-ltb (1 + n) (1 + length xs) (omega (arith, less)) ∙ sym (lt-ltb n (length xs) less)
  | inr more ↦ le-ltb (1 + n) (1 + length xs) (omega (arith, more)) ∙ sym (le-ltb n (length xs) more)
]

-- a list has a number if and only if the number's position isn't past its end
pub has_by_position : (xs : List ℕ) (v : ℕ) → nat_lt (position_or_len (λ w. w == v) xs) (length xs) ≡ has xs v
has_by_position [] v = refl
has_by_position (x ∷ xs) v =
    let next : suc (length xs) ≡ 1 + length xs = omega arith in
    ap (nat_lt (position_or_len (λ w. w == v) (x ∷ xs))) next
    ∙ cond_shift (x == v) (position_or_len (λ w. w == v) xs) xs ∙ ap (λ (b : Bool). (x == v) || b) (has_by_position xs v)

-- ---- no number twice

-- in a list that has no number twice, each stands at one place
pub one_place : (xs : List ℕ) → AllPairs (λ v w. v ≢ w) xs → (i j : ℕ) → i < length xs → j < length xs → get_or xs i 0 ≡ get_or xs j 0 → i ≡ j
one_place xs apart i j first second same = elim (cases_lt i j) [
  | inl less ↦ absurd (apart i j 0 less second same)
  | inr more ↦ elim (cases_lt j i) [
    | inl less ↦ absurd (apart j i 0 less first (sym same))
    | inr other ↦ omega (arith, more, other)
  ]
]

-- ---- the end in another order

-- a list, what stands at its end, and that in this order
pub record IsReordered (front back again order ranks : List ℕ) : Type 0 where
  -- no number stands twice in the list
  pub apart : AllPairs (λ v w. v ≢ w) (front ++ back)
  -- the order has as many places as the end has numbers
  pub order_many : length order ≡ length back
  -- each place of the order is one of the end
  pub order_below : (j : ℕ) → j < length order → get_or order j 0 < length back
  -- no place stands twice in the order
  pub alone : (g i j : ℕ) → slice_get order i ≡ Some g → slice_get order j ≡ Some g → i ≡ j
  -- each place of the end stands in the order at its rank
  pub ranked : (g : ℕ) → g < length back → slice_get order (slice_index ranks g) ≡ Some g
  -- the end in this order is as long as the order
  pub again_many : length again ≡ length order
  -- it has at each place what the end has at the order's place
  pub again_at : (j : ℕ) → j < length order → get_or again j 0 ≡ get_or back (get_or order j 0) 0

module _ (front back again order ranks : List ℕ) (is : IsReordered front back again order ranks) where
  in_front : (xs : List ℕ) (j : ℕ) → j < length front → get_or (front ++ xs) j 0 ≡ get_or front j 0
  in_front xs j less = get_or_append_left front xs 0 j less

  in_back : (xs : List ℕ) (j : ℕ) → length front ≤ j → get_or (front ++ xs) j 0 ≡ get_or xs (j - length front) 0
  in_back xs j more =
      let at : length front + (j - length front) ≡ j = omega (arith, more) in
      ap (λ (k : ℕ). get_or (front ++ xs) k 0) (sym at) ∙ get_or-append-add front xs (j - length front) 0

  whole : length (front ++ back) ≡ length front + length back
  whole = length-append front back

  -- a number before the end keeps its position
  pub stays_in_front : (v p : ℕ) → position (λ w. w == v) (front ++ back) ≡ Some p → p < length front → position (λ w. w == v) (front ++ again) ≡ Some p
  stays_in_front v p found less =
      let parts = position-Some (λ w. w == v) (front ++ back) p 0 found in
      let at = position_at (front ++ back) v p found in
      position_is (front ++ again) v p (omega (arith, less, length-append front again)) (in_front again p less ∙ sym (in_front back p less) ∙ at.1)
      (λ j before same.
      let earlier = parts.2 j before in
      let there : get_or (front ++ back) j 0 ≡ v = in_front back j (omega (arith, before, less)) ∙ sym (in_front again j (omega (arith, before, less))) ∙ same in
      true_is_not_false (sym (eq-eqb (get_or (front ++ back) j 0) v there) ∙ earlier))
    where
      true_is_not_false : true ≡ false → ⊥
      true_is_not_false e = cc

  -- a number at the end has its position by its rank
  pub moves_to_rank : (v p : ℕ) → position (λ w. w == v) (front ++ back) ≡ Some p → length front ≤ p → position (λ w. w == v) (front ++ again) ≡ Some (length front + slice_index ranks (p - length front))
  moves_to_rank v p found more =
      let at = position_at (front ++ back) v p found in
      let below : p - length front < length back = omega (arith, more, at.0, whole) in
      let there = is.ranked (p - length front) below in
      let short = slice_get_within order (slice_index ranks (p - length front)) (p - length front) there in
      let ordered : get_or order (slice_index ranks (p - length front)) 0 ≡ p - length front = get_or_from_slice_get order (slice_index ranks (p - length front)) (p - length front) 0 there in
      let here : get_or (front ++ again) (length front + slice_index ranks (p - length front)) 0 ≡ v
      = get_or-append-add front again (slice_index ranks (p - length front)) 0 ∙ is.again_at (slice_index ranks (p - length front)) short ∙ ap (λ (k : ℕ). get_or back k 0) ordered ∙ sym (in_back back p more) ∙ at.1 in
      position_is (front ++ again) v (length front + slice_index ranks (p - length front)) (omega (arith, short, length-append front again, is.again_many)) here
      (λ j before same. elim (cases_lt j (length front)) [
        | inl less ↦
            let is_p : j ≡ p = one_place (front ++ back) is.apart j p (omega (arith, less, whole)) at.0 (in_front back j less ∙ sym (in_front again j less) ∙ same ∙ sym at.1) in
            omega (arith, is_p, less, more)
        | inr past ↦
            let k_short : j - length front < length order = omega (arith, before, past, short) in
            let k_below = is.order_below (j - length front) k_short in
            let value : get_or (front ++ back) (length front + get_or order (j - length front) 0) 0 ≡ v
            = get_or-append-add front back (get_or order (j - length front) 0) 0 ∙ sym (is.again_at (j - length front) k_short) ∙ sym (in_back again j past) ∙ same in
            let is_p : length front + get_or order (j - length front) 0 ≡ p
            = one_place (front ++ back) is.apart (length front + get_or order (j - length front) 0) p (omega (arith, k_below, whole)) at.0 (value ∙ sym at.1) in
            let same_gate : get_or order (j - length front) 0 ≡ p - length front = omega (arith, is_p) in
            let same_rank : j - length front ≡ slice_index ranks (p - length front)
            = is.alone (p - length front) (j - length front) (slice_index ranks (p - length front)) (slice_get-get_or order (j - length front) 0 k_short ∙ ap (λ n. Some n) same_gate) there in
            omega (arith, same_rank, before, past)
      ])

module _ (front back : List ℕ) (apart : AllPairs (λ v w. v ≢ w) (front ++ back)) where
  at_whole : length (front ++ back) ≡ length front + length back
  at_whole = length-append front back

  at_back : (j : ℕ) → length front ≤ j → get_or (front ++ back) j 0 ≡ get_or back (j - length front) 0
  at_back j more =
      let at : length front + (j - length front) ≡ j = omega (arith, more) in
      ap (λ (k : ℕ). get_or (front ++ back) k 0) (sym at) ∙ get_or-append-add front back (j - length front) 0

  -- what stands at the end, alone
  pub none_at_end : (v p : ℕ) → position (λ w. w == v) (front ++ back) ≡ Some p → p < length front → position (λ w. w == v) back ≡ None
  none_at_end v p found less =
      let at = position_at (front ++ back) v p found in
      position_none back v (λ j within same.
      let is_p : length front + j ≡ p = one_place (front ++ back) apart (length front + j) p (omega (arith, within, at_whole)) at.0 (get_or-append-add front back j 0 ∙ same ∙ sym at.1) in
      omega (arith, is_p, less))

  -- a number whose position is at the end has it there, counted from the end's beginning
  pub found_at_end : (v p : ℕ) → position (λ w. w == v) (front ++ back) ≡ Some p → length front ≤ p → position (λ w. w == v) back ≡ Some (p - length front)
  found_at_end v p found more =
      let at = position_at (front ++ back) v p found in
      position_is back v (p - length front) (omega (arith, more, at.0, at_whole)) (sym (at_back p more) ∙ at.1)
      (λ j before same.
      let is_p : length front + j ≡ p = one_place (front ++ back) apart (length front + j) p (omega (arith, before, more, at.0, at_whole)) at.0 (get_or-append-add front back j 0 ∙ same ∙ sym at.1) in
      omega (arith, is_p, before, more))
