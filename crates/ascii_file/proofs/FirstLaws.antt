-- The first number that passes, and lists of places.
use Rattle.std.proofs.Common.{ℕ, ◌<◌, ◌≤◌, ◌≡◌, ◌⊎◌, inl, inr, suc, zero, List, [], ◌∷◌, ◌++◌, take, Bool, true, false, nat_eq, cond, Option, Some, None, slice_get, refl, arith, ap, sym, ◌∙◌}
use Rattle.std.specs.Option.{option_or}
use Rattle.std.proofs.lemmas.Bool.{cases_eq, cases_lt, cases_Bool, both_ways, eqb-true, eq-eqb, or_left, or_right, or_cases}
use Rattle.std.proofs.lemmas.Option.{none-some, same_Some}
use Rattle.ascii_file.specs.order.Order.{has_gate, first_below}

-- the first number that passes, below n
pub record IsFirst (p : ℕ → Bool) (n g : ℕ) : Type 0 where
  -- it is below n
  pub below : g < n
  -- it passes
  pub passes : p g ≡ true
  -- no smaller number passes
  pub least : (h : ℕ) → p h ≡ true → g ≤ h

-- a search below n finds the first number that passes, or none if none below n does
pub first_below_cases : (p : ℕ → Bool) (n : ℕ) → ((g : ℕ) × (first_below p n ≡ Some g) × IsFirst p n g) ⊎ ((first_below p n ≡ None) × ((h : ℕ) → h < n → p h ≡ false))
unfolding first_below
first_below_cases p zero = inr (refl, λ h less. absurd (omega arith))
first_below_cases p (suc n) = elim (first_below_cases p n) [
  | inl found ↦ (
      let f = found.2 in
      inl (found.0, ap (λ (o : Option ℕ). option_or o (cond (p n) (Some n) None)) found.1, record { below = omega arith; passes = f.passes; least = f.least }))
  | inr none ↦ elim (cases_Bool (p n)) [
    | inl pass ↦ inl (
      n,
      ap (λ (o : Option ℕ). option_or o (cond (p n) (Some n) None)) none.0 ∙ ap (λ (b : Bool). cond b (Some n) None) pass,
      record {
        below = omega arith;
        passes = pass;
        least = λ h good. elim (cases_lt h n) [
          | inl less ↦ absurd (both_ways (p h) (none.1 h less) good)
          | inr above ↦ above
        ];
      },
    )
    | inr fails ↦ inr (
      ap (λ (o : Option ℕ). option_or o (cond (p n) (Some n) None)) none.0 ∙ ap (λ (b : Bool). cond b (Some n) None) fails,
      λ h less. elim (cases_eq h n) [
        | inl same ↦ ap p same ∙ fails
        | inr other ↦ none.1 h (omega arith)
      ],
    )
  ]
]

-- the first number that passes is the one that a search finds
pub first_below_is : (p : ℕ → Bool) (n g : ℕ) → IsFirst p n g → first_below p n ≡ Some g
first_below_is p n g f = elim (first_below_cases p n) [
  | inl found ↦ (
      let less : found.0 ≤ g = found.2.least g f.passes in
      let more : g ≤ found.0 = f.least found.0 found.2.passes in
      let same : found.0 ≡ g = omega arith in
      found.1 ∙ ap (λ (h : ℕ). Some h) same)
  | inr none ↦ absurd (both_ways (p g) (none.1 g f.below) f.passes)
]

-- if no number below n passes, a search finds none
pub first_below_none : (p : ℕ → Bool) (n : ℕ) → ((h : ℕ) → h < n → p h ≡ false) → first_below p n ≡ None
first_below_none p n all = elim (first_below_cases p n) [
  | inl found ↦ absurd (both_ways (p found.0) (all found.0 found.2.below) found.2.passes)
  | inr none ↦ none.0
]

-- what a list has stands somewhere in it
pub has_place : (xs : List ℕ) (g : ℕ) → has_gate xs g ≡ true → (k : ℕ) × (slice_get xs k ≡ Some g)
has_place [] g e = absurd (both_ways false refl e)
has_place (x ∷ xs) g e = elim (or_cases (nat_eq g x) (has_gate xs g) e) [
  | inl here ↦ (0, ap (λ (h : ℕ). Some h) (sym (eqb-true g x here)))
  | inr later ↦ (let rest = has_place xs g later in (suc rest.0, rest.1))
]

-- a list has what stands at one of its places
pub place_has : (xs : List ℕ) (k g : ℕ) → slice_get xs k ≡ Some g → has_gate xs g ≡ true
place_has [] k g e = absurd (none-some g e)
place_has (x ∷ xs) zero g e = or_left (nat_eq g x) (has_gate xs g) (eq-eqb g x (sym (same_Some x g e)))
place_has (x ∷ xs) (suc k) g e = or_right (nat_eq g x) (has_gate xs g) (place_has xs k g e)

-- one more at the end of a front
pub take_push : {A : Type 0} (xs : List A) (k : ℕ) (x : A) → slice_get xs k ≡ Some x → take (suc k) xs ≡ take k xs ++ x ∷ []
take_push [] k x e = absurd (none-some x e)
take_push (y ∷ ys) zero x e = ap (λ z. z ∷ []) (same_Some y x e)
take_push (y ∷ ys) (suc k) x e = ap (λ zs. y ∷ zs) (take_push ys k x e)
