-- The values of free latches, taken out of those of all latches, spread, and put back.
use Rattle.std.proofs.Common.{ℕ, suc, zero, ◌+◌, ◌-◌, ◌<◌, ◌≤◌, ◌≡◌, Bool, true, false, List, [], ◌∷◌, length, take, drop, get_or, count_by, cond, Some, slice_get, refl, arith, ap, sym, ◌∙◌, nat_eq, inl, inr, ◌⊎◌, ◌++◌, ◌==◌, ap₂, append_assoc, append-nil, add-one, min}
use Rattle.std.proofs.Math.Seq.{drop-cons}
use Rattle.std.proofs.lemmas.Bool.{cond-true, cond-false, cond_both, cases_lt, eqb-true, eqb-false}
use Rattle.std.proofs.lemmas.List.{drop_all, length-drop, drop-drop, get_or-drop}
use Rattle.std.proofs.lemmas.List.Sums.{sum_by-cons}
use Rattle.std.proofs.lemmas.Option.{none-some, same_Some}
use Rattle.aig_graph.specs.declared.graph.Latch.{Latch}
use Rattle.aig_graph.specs.declared.graph.Reset.{Reset}
use Rattle.aig_graph.specs.declared.graph.Reset.TheVariants as reset
use Rattle.aig_graph.specs.Graph.{is_free}
use Rattle.witnesses.specs.declared.witness.Digit.{Digit}
use Rattle.witnesses.specs.declared.witness.Digit.TheVariants.{Either}
use Rattle.witnesses.specs.Carrying.{free_digits, first_of, is_first, spread, opened, opening_digits}

-- how many latches are free
abbrev frees : List Latch → ℕ
frees latches = count_by is_free (take (length latches) latches)

frees-more : (latch : Latch) (latches : List Latch) → frees (latch ∷ latches) ≡ cond {A = ℕ} (is_free latch) 1 0 + frees latches
frees-more latch latches = sum_by-cons (λ l. cond {A = ℕ} (is_free l) 1 0) latch (take (length latches) latches)

-- ---- put back, and taken out

module _ (latch : Latch) (latches : List Latch) where
  abbrev free_reset : Reset → Bool
  free_reset r = elim r [ reset.Zero ↦ false | reset.One ↦ false | reset.Free ↦ true ]

  abbrev taken : Reset → List Digit → List Digit
  taken r [] = []
  taken r (digit ∷ digits) = cond (free_reset r) (digit ∷ free_digits latches digits) (free_digits latches digits)

  taken_is : (digits : List Digit) → free_digits (latch ∷ latches) digits ≡ taken latch.reset digits
  unfolding free_digits
  taken_is [] = refl
  taken_is (digit ∷ digits) = refl

  taken_put : (r : Reset) (n : ℕ) (free : List Digit) → length free ≡ cond {A = ℕ} (free_reset r) 1 0 + n
      → ((fs : List Digit) → length fs ≡ n → free_digits latches (opening_digits latches fs) ≡ fs)
      → taken r (opened r free ∷ opening_digits latches (cond (free_reset r) (drop 1 free) free)) ≡ free
  taken_put reset.Zero n free long back = back free (omega (arith, long))
  taken_put reset.One n free long back = back free (omega (arith, long))
  taken_put reset.Free n [] long back = absurd (omega (arith, long))
  taken_put reset.Free n (digit ∷ free) long back = ap (λ ds. digit ∷ ds) (back free (omega (arith, long)))

-- values for the free latches that are put among the resets, and taken out again, are as they were
pub taken_back : (latches : List Latch) (free : List Digit) → length free ≡ frees latches → free_digits latches (opening_digits latches free) ≡ free
unfolding free_digits opening_digits
taken_back [] [] long = refl
taken_back [] (digit ∷ free) long = absurd (omega (arith, long))
taken_back (latch ∷ latches) free long =
    taken_is latch latches (opening_digits (latch ∷ latches) free)
    ∙ taken_put latch latches latch.reset (frees latches) free (long ∙ frees-more latch latches) (taken_back latches)

-- no more are taken out than are free
pub taken-few : (latches : List Latch) (digits : List Digit) → length (free_digits latches digits) ≤ frees latches
unfolding free_digits
taken-few [] digits = omega arith
taken-few (latch ∷ latches) [] = omega arith
taken-few (latch ∷ latches) (digit ∷ digits) = by_test (is_free latch) (frees-more latch latches) (taken-few latches digits)
  where
    by_test : (b : Bool) → frees (latch ∷ latches) ≡ cond {A = ℕ} b 1 0 + frees latches → length (free_digits latches digits) ≤ frees latches
        → length (cond {A = List Digit} b (digit ∷ free_digits latches digits) (free_digits latches digits)) ≤ frees (latch ∷ latches)
    by_test true all few = omega (arith, all, few)
    by_test false all few = omega (arith, all, few)

-- ---- spread

-- as many values are spread as there are free latches
pub spread-length : (count place : ℕ) (kept : List ℕ) (digits : List Digit) → length (spread count place kept digits) ≡ count
unfolding spread
spread-length zero place kept digits = refl
spread-length (suc count) place kept digits =
    cond_both (is_first kept place) (first_of digits ∷ spread count (suc place) (drop 1 kept) (drop 1 digits)) (Either ∷ spread count (suc place) kept digits)
    (λ ds. length ds ≡ suc count) (λ _. ap suc (spread-length count (suc place) (drop 1 kept) (drop 1 digits))) (λ _. ap suc (spread-length count (suc place) kept digits))

-- rising places from place on, below place + count
pub record Rises (place count : ℕ) (kept : List ℕ) : Type 0 where
  -- each kept place is from the first place on
  pub low : (j : ℕ) → j < length kept → place ≤ get_or kept j 0
  -- each kept place is below the end
  pub high : (j : ℕ) → j < length kept → get_or kept j 0 < place + count
  -- the kept places rise
  pub rising : (i j : ℕ) → i < j → j < length kept → get_or kept i 0 < get_or kept j 0

rises-rest : (place count k : ℕ) (kept : List ℕ) → k ≡ place → Rises place (suc count) (k ∷ kept) → Rises (suc place) count kept
rises-rest place count k kept is r = record {
  low = λ j h. let above : k < get_or kept j 0 = r.rising 0 (suc j) (omega arith) (omega (arith, h)) in omega (arith, above, is);
  high = λ j h. let below : get_or kept j 0 < place + suc count = r.high (suc j) (omega (arith, h)) in omega (arith, below);
  rising = λ i j lt h. r.rising (suc i) (suc j) (omega (arith, lt)) (omega (arith, h));
}

above : (place k : ℕ) → place ≤ k → (k ≡ place → ⊥) → place < k
above place k low isnt = elim (cases_lt place k) [
  | inl less ↦ less
  | inr more ↦ absurd (isnt (omega (arith, more, low)))
]

rises-on : (place count k : ℕ) (kept : List ℕ) → (k ≡ place → ⊥) → Rises place (suc count) (k ∷ kept) → Rises (suc place) count (k ∷ kept)
rises-on place count k kept isnt r = record {
  low = all_above;
  high = λ j h. let below : get_or (k ∷ kept) j 0 < place + suc count = r.high j h in omega (arith, below);
  rising = r.rising;
}
  where
    first : place < k
    first = above place k (r.low 0 (omega arith)) isnt

    all_above : (j : ℕ) → j < length (k ∷ kept) → suc place ≤ get_or (k ∷ kept) j 0
    all_above zero h = omega (arith, first)
    all_above (suc j) h = let more : k < get_or kept j 0 = r.rising 0 (suc j) (omega arith) h in omega (arith, more, first)

digit-of_first : (digits : List Digit) (d : Digit) → slice_get digits 0 ≡ Some d → first_of digits ≡ d
digit-of_first [] d at = absurd (none-some d at)
digit-of_first (e ∷ digits) d at = same_Some e d at

digit-of_rest : (digits : List Digit) (j : ℕ) (d : Digit) → slice_get digits (suc j) ≡ Some d → slice_get (drop 1 digits) j ≡ Some d
digit-of_rest [] j d at = at
digit-of_rest (e ∷ digits) j d at = at

-- what stands at a kept place, one place further on
abbrev Stands : ℕ → ℕ → List ℕ → List Digit → Type 0
Stands count place kept digits = Rises (suc place) count kept → (j : ℕ) (d : Digit) → j < length kept → slice_get digits j ≡ Some d
    → slice_get (spread count (suc place) kept digits) (get_or kept j 0 - suc place) ≡ Some d

-- what stands at a kept place
pub spread-kept : (count place : ℕ) (kept : List ℕ) (digits : List Digit) → Rises place count kept → (j : ℕ) (d : Digit) → j < length kept → slice_get digits j ≡ Some d
    → slice_get (spread count place kept digits) (get_or kept j 0 - place) ≡ Some d
unfolding spread
spread-kept zero place kept digits r j d h at = absurd (omega (arith, r.low j h, r.high j h))
spread-kept (suc count) place [] digits r j d h at = absurd (omega (arith, h))
spread-kept (suc count) place (k ∷ kept) digits r j d h at =
    by_test (spread-kept count (suc place) kept (drop 1 digits)) (spread-kept count (suc place) (k ∷ kept) digits) (nat_eq k place) refl
  where
    here : List Digit
    here = first_of digits ∷ spread count (suc place) kept (drop 1 digits)

    on : List Digit
    on = Either ∷ spread count (suc place) (k ∷ kept) digits

    at_kept : Stands count place kept (drop 1 digits) → (i : ℕ) → i < length (k ∷ kept) → slice_get digits i ≡ Some d → k ≡ place → slice_get here (get_or (k ∷ kept) i 0 - place) ≡ Some d
    at_kept stands zero within found is =
        let none : k - place ≡ 0 = omega (arith, is) in
        ap (slice_get here) none ∙ ap Some (digit-of_first digits d found)
    at_kept stands (suc i) within found is =
        let rest = rises-rest place count k kept is r in
        let low : suc place ≤ get_or kept i 0 = rest.low i (omega (arith, within)) in
        let next : get_or kept i 0 - place ≡ suc (get_or kept i 0 - suc place) = omega (arith, low) in
        ap (slice_get here) next ∙ stands rest i d (omega (arith, within)) (digit-of_rest digits i d found)

    at_other : Stands count place (k ∷ kept) digits → (k ≡ place → ⊥) → slice_get on (get_or (k ∷ kept) j 0 - place) ≡ Some d
    at_other stands isnt =
        let rest = rises-on place count k kept isnt r in
        let low : suc place ≤ get_or (k ∷ kept) j 0 = rest.low j h in
        let next : get_or (k ∷ kept) j 0 - place ≡ suc (get_or (k ∷ kept) j 0 - suc place) = omega (arith, low) in
        ap (slice_get on) next ∙ stands rest j d h at

    by_test : Stands count place kept (drop 1 digits) → Stands count place (k ∷ kept) digits → (b : Bool) → nat_eq k place ≡ b → slice_get (cond b here on) (get_or (k ∷ kept) j 0 - place) ≡ Some d
    by_test rest same true e = at_kept rest j h at (eqb-true k place e)
    by_test rest same false e = at_other same (eqb-false k place e)

-- ---- in loops, if lists are followed from a place on

from : {X : Type 0} (xs : List X) (k : ℕ) (x : X) → k < length xs → x ≡ get_or xs k x → drop k xs ≡ x ∷ drop (k + 1) xs
from xs k x h is = drop-cons xs k x h ∙ ap₂ (λ (y : _) (ys : List _). y ∷ ys) (sym is) (ap (λ (n : ℕ). drop n xs) (sym (add-one k)))

past : {X : Type 0} (xs : List X) (k : ℕ) → length xs ≤ k → drop k xs ≡ []
past xs k h = drop_all k xs h

any_default : (digits : List Digit) (n : ℕ) (d e : Digit) → n < length digits → get_or digits n d ≡ get_or digits n e
any_default [] n d e h = absurd (omega (arith, h))
any_default (x ∷ digits) zero d e h = refl
any_default (x ∷ digits) (suc n) d e h = any_default digits n d e (omega (arith, h))

module _ (latches : List Latch) (digits : List Digit) (k : ℕ) where
  abbrev pub rest_free : ℕ → List Digit
  rest_free n = free_digits (drop n latches) (drop n digits)

  at_latch : (latch : Latch) (digit : Digit) → k < length latches → k < length digits → latch ≡ get_or latches k latch → digit ≡ get_or digits k digit
      → rest_free k ≡ cond (is_free latch) (digit ∷ rest_free (k + 1)) (rest_free (k + 1))
  unfolding free_digits
  at_latch latch digit h g is there = ap₂ free_digits (from latches k latch h is) (from digits k digit g there)

  -- the value of a free latch is the next one that is taken out
  pub free_taken : (whole done : List Digit) (latch : Latch) (first : Digit) → k < length latches → k < length digits → latch ≡ get_or latches k latch
      → is_free latch ≡ true → whole ≡ done ++ rest_free k → whole ≡ (done ++ get_or digits k first ∷ []) ++ rest_free (k + 1)
  free_taken whole done latch first h g is free same =
      let digit = get_or digits k first in
      same ∙ ap (λ ds. done ++ ds) (at_latch latch digit h g is (any_default digits k first digit g) ∙ cond-true (is_free latch) (digit ∷ rest_free (k + 1)) (rest_free (k + 1)) free)
      ∙ sym (append_assoc done (digit ∷ []) (rest_free (k + 1)))

  -- at a known latch no value is taken out
  pub known_passed : (whole done : List Digit) (latch : Latch) → k < length latches → k < length digits → latch ≡ get_or latches k latch
      → is_free latch ≡ false → whole ≡ done ++ rest_free k → whole ≡ done ++ rest_free (k + 1)
  known_passed whole done latch h g is known same =
      let digit = get_or digits k Either in
      same ∙ ap (λ ds. done ++ ds) (at_latch latch digit h g is (any_default digits k Either digit g) ∙ cond-false (is_free latch) (digit ∷ rest_free (k + 1)) (rest_free (k + 1)) known)

  none_free : (ls : List Latch) (ds : List Digit) → (length ls ≡ 0) ⊎ (length ds ≡ 0) → free_digits ls ds ≡ []
  unfolding free_digits
  none_free [] ds none = refl
  none_free (l ∷ ls) [] none = refl
  none_free (l ∷ ls) (d ∷ ds) none = elim none [ inl e ↦ absurd (omega (arith, e)) | inr e ↦ absurd (omega (arith, e)) ]

  -- past the last latch or value all values have been taken out
  pub free_all : (whole done : List Digit) → min (length latches) (length digits) ≤ k → whole ≡ done ++ rest_free k → done ≡ whole
  free_all whole done h same = sym (same ∙ ap (λ ds. done ++ ds) (none_free (drop k latches) (drop k digits) ended) ∙ append-nil done)
    where
      ended : (length (drop k latches) ≡ 0) ⊎ (length (drop k digits) ≡ 0)
      ended = elim (cases_lt k (length latches)) [
        | inl less ↦ inr (omega (arith, h, less, length-drop k digits))
        | inr more ↦ inl (omega (arith, more, length-drop k latches))
      ]

-- ---- the kept places

-- a place is the first of the kept ones that are left if and only if it is the next kept place
pub first_at : (kept : List ℕ) (next place k : ℕ) → next < length kept → k ≡ get_or kept next k → is_first (drop next kept) place ≡ (k == place)
first_at kept next place k h is = ap (λ (ks : List ℕ). is_first ks place) (from kept next k h is)

-- if no kept place is left, no place is the first of them
pub first_none : (kept : List ℕ) (next place : ℕ) → length kept ≤ next → is_first (drop next kept) place ≡ false
first_none kept next place h = ap (λ (ks : List ℕ). is_first ks place) (past kept next h)

-- the first of the values that are left is the next one, or either if there is none
pub first-from : (digits : List Digit) (next : ℕ) → first_of (drop next digits) ≡ get_or digits next Either
first-from digits next = get_or-drop next digits 0 Either ∙ ap (λ (n : ℕ). get_or digits n Either) zeroth
  where
    zeroth : next + 0 ≡ next
    zeroth = omega arith

drop-more : {X : Type 0} (n : ℕ) (xs : List X) → drop 1 (drop n xs) ≡ drop (n + 1) xs
drop-more n xs = drop-drop 1 n xs

module _ (count place next : ℕ) (kept : List ℕ) (digits whole done : List Digit) (less : place < count)
    (same : whole ≡ done ++ spread (count - place) place (drop next kept) (drop next digits)) where
  here : (n : ℕ) → n ≡ count - (place + 1)
      → whole ≡ done ++ cond (is_first (drop next kept) place) (first_of (drop next digits) ∷ spread n (suc place) (drop 1 (drop next kept)) (drop 1 (drop next digits)))
      (Either ∷ spread n (suc place) (drop next kept) (drop next digits))
  unfolding spread
  here n is =
      let one : count - place ≡ suc n = omega (arith, less, is) in
      same ∙ ap (λ (m : ℕ). done ++ spread m place (drop next kept) (drop next digits)) one

  left : ℕ
  left = count - (place + 1)

  after : suc place ≡ place + 1
  after = omega arith

  -- a kept place gets the next value
  pub place_kept : is_first (drop next kept) place ≡ true
      → whole ≡ (done ++ get_or digits next Either ∷ []) ++ spread (count - (place + 1)) (place + 1) (drop (next + 1) kept) (drop (next + 1) digits)
  place_kept is =
      here (count - (place + 1)) refl
      ∙ ap (λ ds. done ++ ds) (cond-true (is_first (drop next kept) place) _ _ is
      ∙ ap₂ (λ (d : Digit) (ds : List Digit). d ∷ ds) (first-from digits next)
      (ap (λ (p : ℕ). spread (count - (place + 1)) p (drop 1 (drop next kept)) (drop 1 (drop next digits))) after
      ∙ ap₂ (λ (ks : List ℕ) (ds : List Digit). spread (count - (place + 1)) (place + 1) ks ds) (drop-more next kept) (drop-more next digits)))
      ∙ sym (append_assoc done (get_or digits next Either ∷ []) _)

  -- a place that isn't kept gets either value
  pub place_other : is_first (drop next kept) place ≡ false
      → whole ≡ (done ++ Either ∷ []) ++ spread (count - (place + 1)) (place + 1) (drop next kept) (drop next digits)
  place_other isnt =
      here (count - (place + 1)) refl
      ∙ ap (λ ds. done ++ ds) (cond-false (is_first (drop next kept) place) _ _ isnt
      ∙ ap (λ (p : ℕ). Either ∷ spread (count - (place + 1)) p (drop next kept) (drop next digits)) after)
      ∙ sym (append_assoc done (Either ∷ []) _)

-- past the last place all values have been spread
pub spread_all : (count place : ℕ) (kept : List ℕ) (digits whole done : List Digit) → count ≤ place → whole ≡ done ++ spread (count - place) place kept digits → done ≡ whole
unfolding spread
spread_all count place kept digits whole done h same =
    let none : count - place ≡ 0 = omega (arith, h) in
    sym (same ∙ ap (λ (n : ℕ). done ++ spread n place kept digits) none ∙ append-nil done)

-- ---- latch after latch

module _ (latches : List Latch) (free whole done : List Digit) (k next : ℕ) (same : whole ≡ done ++ opening_digits (drop k latches) (drop next free)) where
  opening_here : (latch : Latch) → k < length latches → latch ≡ get_or latches k latch
      → whole ≡ (done ++ opened latch.reset (drop next free) ∷ []) ++ opening_digits (drop (k + 1) latches) (cond (is_free latch) (drop 1 (drop next free)) (drop next free))
  unfolding opening_digits
  opening_here latch h is =
      same ∙ ap (λ ls. done ++ opening_digits ls (drop next free)) (from latches k latch h is)
      ∙ sym (append_assoc done (opened latch.reset (drop next free) ∷ []) _)

  -- a free latch holds at step 0 the next of the values
  pub free_opened : (latch : Latch) → k < length latches → latch ≡ get_or latches k latch → is_free latch ≡ true
      → whole ≡ (done ++ opened latch.reset (drop next free) ∷ []) ++ opening_digits (drop (k + 1) latches) (drop (next + 1) free)
  free_opened latch h is free_is =
      opening_here latch h is
      ∙ ap (λ (fs : List Digit). (done ++ opened latch.reset (drop next free) ∷ []) ++ opening_digits (drop (k + 1) latches) fs)
      (cond-true (is_free latch) (drop 1 (drop next free)) (drop next free) free_is ∙ drop-more next free)

  -- a known latch holds its reset at step 0, and takes none of the values
  pub known_opened : (latch : Latch) → k < length latches → latch ≡ get_or latches k latch → is_free latch ≡ false
      → whole ≡ (done ++ opened latch.reset (drop next free) ∷ []) ++ opening_digits (drop (k + 1) latches) (drop next free)
  known_opened latch h is known =
      opening_here latch h is
      ∙ ap (λ (fs : List Digit). (done ++ opened latch.reset (drop next free) ∷ []) ++ opening_digits (drop (k + 1) latches) fs)
      (cond-false (is_free latch) (drop 1 (drop next free)) (drop next free) known)

  -- past the last latch all have what they hold at step 0
  pub opening_all : length latches ≤ k → done ≡ whole
  unfolding opening_digits
  opening_all h = sym (same ∙ ap (λ ls. done ++ opening_digits ls (drop next free)) (past latches k h) ∙ append-nil done)
