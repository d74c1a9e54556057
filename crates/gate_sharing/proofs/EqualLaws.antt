-- Literals that stand for others have their values.
use Rattle.std.proofs.Common.{◌⊎◌, inl, inr, ℕ, ◌+◌, ◌-◌, ◌*◌, ◌≤◌, ◌≡◌, suc, zero, Bool, nat_lt, List, [], ◌∷◌, ◌++◌, length, slice_get, slice_set, Option, Some, None, refl, arith, ap, sym, ◌∙◌}
use Rattle.std.proofs.lemmas.Bool.{cases_lt, cond-true, cond-false, lt-ltb, le-ltb}
use Rattle.std.proofs.lemmas.Option.{same_Some}
use Rattle.aig_graph.specs.Graph.{variable}
use Rattle.aig_graph.specs.Value.{signed, signed_as}
use Rattle.aig_graph.proofs.SignLaws.{value_signed, value_signed_as}
use Rattle.aig_graph.proofs.PlacesLaws.{slice_get_push}
use Rattle.aig_graph.specs.Gates.{IsNegated}
use Rattle.gate_sharing.specs.Equal.{Equal, IsRight, signed_substitute_or_own, standing_for}

-- the substitute of a literal has the literal's value, if that of each variable has that variable's
pub standing-value : (e : Equal) (values : ℕ → Bool) → IsNegated values → IsRight e values → (lit : ℕ) → values (standing_for e lit) ≡ values lit
unfolding standing_for
standing-value e values negated right lit = elim (cases_lt (variable lit) e.first) [
  | inl less ↦ ap values (cond-true (nat_lt (variable lit) e.first) lit (signed_substitute_or_own lit (slice_get e.substitutes (variable lit - e.first))) (lt-ltb (variable lit) e.first less))
  | inr more ↦
      ap values (cond-false (nat_lt (variable lit) e.first) lit (signed_substitute_or_own lit (slice_get e.substitutes (variable lit - e.first))) (le-ltb (variable lit) e.first more))
      ∙ go more (slice_get e.substitutes (variable lit - e.first)) refl
]
  where
    go : e.first ≤ variable lit → (o : Option ℕ) → slice_get e.substitutes (variable lit - e.first) ≡ o → values (signed_substitute_or_own lit o) ≡ values lit
    go more None found = refl
    go more (Some substitute) found =
        let place : 2 * (e.first + (variable lit - e.first)) ≡ 2 * variable lit = omega (arith, more) in
        value_signed_as values negated lit substitute
        ∙ ap (signed lit) (right (variable lit - e.first) substitute found ∙ ap values place)
        ∙ sym (value_signed values negated lit)

-- what a list has, of which one place was set
pub set-at : (xs : List ℕ) (i place y x : ℕ) → slice_get (slice_set xs i y) place ≡ Some x → (slice_get xs place ≡ Some x) ⊎ ((place ≡ i) × (x ≡ y))
set-at [] i place y x e = inl e
set-at (a ∷ xs) zero zero y x e = inr (refl, sym (same_Some y x e))
set-at (a ∷ xs) zero (suc place) y x e = inl e
set-at (a ∷ xs) (suc i) zero y x e = inl e
set-at (a ∷ xs) (suc i) (suc place) y x e = elim (set-at xs i place y x e) [
  | inl before ↦ inl before
  | inr set ↦ inr (ap suc set.0, set.1)
]

signed-twice : (lit : ℕ) (values : ℕ → Bool) → IsNegated values → signed lit (values lit) ≡ values (2 * variable lit)
signed-twice lit values negated =
    sym (value_signed_as values negated lit lit)
    ∙ (let same : signed_as lit lit ≡ 2 * variable lit = omega arith in ap values same)

-- one literal redirected to another of its value
pub redirected : (e : Equal) (lit to place target : ℕ) (substitutes : List ℕ) → place ≡ variable lit - e.first → e.first ≤ variable lit → target ≡ signed_as lit to → substitutes ≡ slice_set e.substitutes place target
    → (values : ℕ → Bool) → IsNegated values → values to ≡ values lit → IsRight e values → IsRight (record { first = e.first; substitutes = substitutes }) values
redirected e lit to place target substitutes here from is set values negated same right j substitute found =
    elim (set-at e.substitutes place j target substitute (ap (λ (xs : List ℕ). slice_get xs j) (sym set) ∙ found)) [
      | inl before ↦ right j substitute before
      | inr now ↦ (
          let at : 2 * variable lit ≡ 2 * (e.first + j) = omega (arith, here, from, now.0) in
          ap values (now.1 ∙ is) ∙ value_signed_as values negated lit to ∙ ap (signed lit) same ∙ signed-twice lit values negated ∙ ap values at)
    ]

-- one more that stands for itself
pub right-push : (first own : ℕ) (substitutes more : List ℕ) → more ≡ substitutes ++ own ∷ [] → own ≡ 2 * (first + length substitutes) → (values : ℕ → Bool) → IsRight (record { first = first; substitutes = substitutes }) values
    → IsRight (record { first = first; substitutes = more }) values
right-push first own substitutes more pushed is values right j substitute found =
    elim (slice_get_push substitutes own j substitute (ap (λ (xs : List ℕ). slice_get xs j) (sym pushed) ∙ found)) [
      | inl before ↦ right j substitute before
      | inr last ↦ (
          let at : own ≡ 2 * (first + j) = omega (arith, is, last.0) in
          ap values (last.1 ∙ at))
    ]
