-- How many there are of a witness's own.
use Rattle.std.proofs.Common.{ℕ, suc, zero, ◌+◌, ◌<◌, ◌≤◌, ◌≡◌, inl, inr, Bool, true, false, cond, List, [], ◌∷◌, length, take, get_or, slice_get, count_by, Option, Some, None, refl, arith, ap, sym, ◌∙◌}
use Rattle.std.proofs.lemmas.Bool.{cases_Bool}
use Rattle.std.proofs.lemmas.List.Sums.{count_by_more_no, count_by_more_yes}
use Rattle.std.proofs.lemmas.Option.{get_or_from_slice_get, none-some, same_Some, slice_get_within}
use Rattle.aig_graph.proofs.ListLaws.{count_by-cons}
use Rattle.witness_circuits.specs.Joining.{is_own, own_count}

-- what is shared with none, and what isn't
pub own-none : (o : Option ℕ) → is_own o ≡ true → o ≡ None
own-none None e = refl
own-none (Some at) e = absurd (cc)

-- a place that isn't the witness's own is shared with some place of the model
pub own-some : (o : Option ℕ) → is_own o ≡ false → (at : ℕ) × (o ≡ Some at)
own-some None e = absurd (cc)
own-some (Some at) e = (at, refl)

-- one more place
pub count-more : (places : List (Option ℕ)) (k count one : ℕ) (o : Option ℕ) → slice_get places k ≡ Some o → count ≡ own_count (take k places) → one ≡ cond (is_own o) 1 0 → count + one ≡ own_count (take (k + 1) places)
count-more places k count one o there counted is =
    let short : k < length places = slice_get_within places k o there in
    let read : get_or places k o ≡ o = get_or_from_slice_get places k o o there in
    elim (cases_Bool (is_own o)) [
      | inl own ↦ (
          let step : count_by is_own (take (k + 1) places) ≡ count_by is_own (take k places) + 1 = count_by_more_yes is_own places k o short (ap is_own read ∙ own) in
          let here : one ≡ 1 = is ∙ ap (λ (b : Bool). cond {A = ℕ} b 1 0) own in
          omega (arith, step, here, counted))
      | inr not_own ↦ (
          let step : count_by is_own (take (k + 1) places) ≡ count_by is_own (take k places) = count_by_more_no is_own places k o short (ap is_own read ∙ not_own) in
          let here : one ≡ 0 = is ∙ ap (λ (b : Bool). cond {A = ℕ} b 1 0) not_own in
          omega (arith, step, here, counted))
    ]

-- a place that is shared adds none, and one that isn't one
pub count-shared : (places : List (Option ℕ)) (k at : ℕ) → slice_get places k ≡ Some (Some at) → own_count (take (k + 1) places) ≡ own_count (take k places)
count-shared places k at there = omega (arith, count-more places k (own_count (take k places)) 0 (Some at) there refl refl)

-- a place of the witness's own adds one
pub count-own : (places : List (Option ℕ)) (k : ℕ) → slice_get places k ≡ Some None → own_count (take (k + 1) places) ≡ own_count (take k places) + 1
count-own places k there = sym (count-more places k (own_count (take k places)) 1 None there refl refl)

-- no more come before a place than there are, and fewer before one of them
pub count-le : (places : List (Option ℕ)) (k : ℕ) → own_count (take k places) ≤ own_count places
count-le places zero = omega arith
count-le [] (suc k) = omega arith
count-le (o ∷ places) (suc k) = omega (arith, count_by-cons is_own o (take k places), count_by-cons is_own o places, count-le places k)

-- before a place of the witness's own there are fewer of these than in all
pub count-lt : (places : List (Option ℕ)) (k : ℕ) → slice_get places k ≡ Some None → own_count (take k places) < own_count places
count-lt [] k e = absurd (none-some None e)
count-lt (o ∷ places) zero e =
    let one : cond {A = ℕ} (is_own o) 1 0 ≡ 1 = ap (λ (p : Option ℕ). cond {A = ℕ} (is_own p) 1 0) (same_Some o None e) in
    omega (arith, count_by-cons is_own o places, one)
count-lt (o ∷ places) (suc k) e = omega (arith, count_by-cons is_own o (take k places), count_by-cons is_own o places, count-lt places k e)
