-- The places of variables with one more.
use Rattle.std.proofs.Common.{ℕ, ◌+◌, ◌<◌, ◌≤◌, ◌≡◌, inl, inr, List, [], ◌∷◌, ◌++◌, length, Some, None, Result, Ok, Err, OnOk, Bool, true, false, not, ◌||◌, cond, nat_eq, nat_lt, refl, sym, subst, ap, ◌∙◌, arith, position}
use Rattle.std.proofs.lemmas.Bool.{cond-true, cond-false, cases_lt, cases_eq, eq-eqb, ne_eqb, lt-ltb, le-ltb}
use Rattle.std.specs.List.{list_any, position_or_len}
use Rattle.std.specs.Option.{is_some}
use Rattle.std.proofs.lemmas.List.{length_push, length-append, length-map}
use Rattle.std.proofs.lemmas.List.Folds.{position_or_len_push}
use Rattle.std.proofs.lemmas.List.Sums.{prefix_len-le-length}
use Rattle.aig_graph.specs.Marking.{has}
use Rattle.ascii_file.specs.Raw.{Raw, defined}
use Rattle.ascii_file.specs.declared.parts.places.Places.{Places}
use Rattle.ascii_file.specs.parts.Places.{place_of}
use Rattle.aag_text.specs.Taking.{ArePlacesOf}

-- ---- the first element that passes a test, with one element more

module _ {X : Type 0} (p : X → Bool) where
  within-any : (xs : List X) → nat_lt (position_or_len p xs) (length xs) ≡ list_any p xs
  within-any [] = refl
  within-any (x ∷ xs) = by_test (p x) (within-any xs)
    where
      by_test : (b : Bool) → nat_lt (position_or_len p xs) (length xs) ≡ list_any p xs → nat_lt (cond (not b) (1 + position_or_len p xs) 0) (length (x ∷ xs)) ≡ (b || list_any p xs)
      by_test true e = lt-ltb 0 (length (x ∷ xs)) (omega arith)
      by_test false e = elim (cases_lt (position_or_len p xs) (length xs)) [
        | inl less ↦ lt-ltb (1 + position_or_len p xs) (length (x ∷ xs)) (omega arith) ∙ sym (lt-ltb (position_or_len p xs) (length xs) less) ∙ e
        | inr full ↦ le-ltb (1 + position_or_len p xs) (length (x ∷ xs)) (omega arith) ∙ sym (le-ltb (position_or_len p xs) (length xs) full) ∙ e
      ]

  -- there is a position if and only if an element passes
  some-position : (xs : List X) → is_some (position p xs) ≡ list_any p xs
  some-position xs = by_test (nat_lt (position_or_len p xs) (length xs)) ∙ within-any xs
    where
      by_test : (b : Bool) → is_some (cond b (Some (position_or_len p xs)) None) ≡ b
      by_test true = refl
      by_test false = refl

  module _ (xs : List X) (y : X) where
    still-first : position_or_len p xs < length xs → position p (xs ++ y ∷ []) ≡ position p xs
    still-first less =
        let same : position_or_len p (xs ++ y ∷ []) ≡ position_or_len p xs = position_or_len_push p xs y ∙ cond-false _ _ _ (ne_eqb (position_or_len p xs) (length xs) (λ e. absurd (omega arith))) in
        cond-true _ _ _ (lt-ltb (position_or_len p (xs ++ y ∷ [])) (length (xs ++ y ∷ [])) (omega (arith, same, length_push xs y))) ∙ ap Some same
        ∙ sym (cond-true _ _ _ (lt-ltb (position_or_len p xs) (length xs) less))

    at-end : length xs ≤ position_or_len p xs → position_or_len p (xs ++ y ∷ []) ≡ length xs + cond (p y) 0 1
    at-end full =
        let most : position_or_len p xs ≤ length xs = prefix_len-le-length (λ x. not (p x)) xs in
        position_or_len_push p xs y ∙ cond-true _ _ _ (eq-eqb (position_or_len p xs) (length xs) (omega arith))

    is-last : length xs ≤ position_or_len p xs → p y ≡ true → position p (xs ++ y ∷ []) ≡ Some (length xs)
    is-last full passes =
        let zero_more : cond {A = ℕ} (p y) 0 1 ≡ 0 = cond-true (p y) 0 1 passes in
        let there : position_or_len p (xs ++ y ∷ []) ≡ length xs = at-end full ∙ omega (arith, zero_more) in
        cond-true _ _ _ (lt-ltb (position_or_len p (xs ++ y ∷ [])) (length (xs ++ y ∷ [])) (omega (arith, there, length_push xs y))) ∙ ap Some there

    is-none : length xs ≤ position_or_len p xs → p y ≡ false → position p (xs ++ y ∷ []) ≡ position p xs
    is-none full fails =
        let one_more : cond {A = ℕ} (p y) 0 1 ≡ 1 = cond-false (p y) 0 1 fails in
        let past : position_or_len p (xs ++ y ∷ []) ≡ length xs + 1 = at-end full ∙ omega (arith, one_more) in
        cond-false _ _ _ (le-ltb (position_or_len p (xs ++ y ∷ [])) (length (xs ++ y ∷ [])) (omega (arith, past, length_push xs y)))
        ∙ sym (cond-false _ _ _ (le-ltb (position_or_len p xs) (length xs) full))

    -- one that fails the test changes nothing
    unchanged : p y ≡ false → position p (xs ++ y ∷ []) ≡ position p xs
    unchanged fails = elim (cases_lt (position_or_len p xs) (length xs)) [
      | inl less ↦ still-first less
      | inr full ↦ is-none full fails
    ]

    -- one that passes is the first if none does before it
    found : list_any p xs ≡ false → p y ≡ true → position p (xs ++ y ∷ []) ≡ Some (length xs)
    found none passes = elim (cases_lt (position_or_len p xs) (length xs)) [
      | inl less ↦ absurd (differ (sym (lt-ltb (position_or_len p xs) (length xs) less) ∙ within-any xs ∙ none))
      | inr full ↦ is-last full passes
    ]
      where
        differ : true ≡ false → ⊥
        differ e = absurd cc

-- ---- the places

-- whether a variable has a place is whether it is among those that do
pub has-place : (places : Places) (vs : List ℕ) (v : ℕ) → ArePlacesOf places vs → is_some (place_of places v) ≡ has vs v
has-place places vs v are = ap is_some (are v) ∙ some-position (λ w. nat_eq w v) vs

-- the places of variables, with one more at their end, are those of the longer list
pub places-push : (old new : Places) (vs : List ℕ) (v : ℕ) → ArePlacesOf old vs → place_of old v ≡ None → ((w : ℕ) → place_of new w ≡ cond (nat_eq w v) (Some (length vs)) (place_of old w))
    → ArePlacesOf new (vs ++ v ∷ [])
places-push old new vs v are absent inserted w =
    let fresh : has vs v ≡ false = sym (has-place old vs v are) ∙ ap is_some absent in
    elim (cases_eq w v) [
      | inl same ↦ subst (λ (u : ℕ). place_of new u ≡ position (λ x. nat_eq x u) (vs ++ v ∷ [])) (sym same)
          (inserted v ∙ cond-true _ _ _ (eq-eqb v v refl) ∙ sym (found (λ x. nat_eq x v) vs v fresh (eq-eqb v v refl)))
      | inr apart ↦ inserted w ∙ cond-false _ _ _ (ne_eqb w v apart) ∙ are w ∙ sym (unchanged (λ x. nat_eq x w) vs v (ne_eqb v w (λ e. apart (sym e))))
    ]

-- that place, if the variable was added
pub places-added : {E : Type 0} (r : Result (Unit {0}) E) (old new : Places) (vs : List ℕ) (v n : ℕ) → ArePlacesOf old vs → place_of old v ≡ None → n ≡ length vs
    → OnOk r ((w : ℕ) → place_of new w ≡ cond (nat_eq w v) (Some n) (place_of old w)) → OnOk r (ArePlacesOf new (vs ++ v ∷ []))
places-added (Ok done) old new vs v n are absent last inserted =
    places-push old new vs v are absent (λ w. inserted w ∙ ap (λ (k : ℕ). cond (nat_eq w v) (Some k) (place_of old w)) last)
places-added (Err e) old new vs v n are absent last inserted = tt

-- how many variables the lines define
pub defined-length : (raw : Raw) → length (defined raw) ≡ length raw.inputs + length raw.latches + length raw.gates
defined-length raw = simp (length-append, length-map)
