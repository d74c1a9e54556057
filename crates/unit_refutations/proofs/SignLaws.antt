-- A literal and its negation.
use Rattle.std.proofs.Common.{ℕ, ◌+◌, ◌*◌, ◌/◌, ◌%◌, ◌≡◌, ◌≢◌, inl, inr, Bool, true, false, not, refl, arith, ap, sym, ◌∙◌}
use Rattle.std.proofs.Math.Bool.{not-not}
use Rattle.std.proofs.lemmas.Bool.{cases_eq}
use Rattle.aig_graph.specs.Gates.{IsNegated}

-- the negation of a literal has the other value
pub not-value : (values : ℕ → Bool) → IsNegated values → (lit other : ℕ) → other / 2 ≡ lit / 2 → other % 2 ≢ lit % 2 → values other ≡ not (values lit)
not-value values negated lit other same sign = elim (cases_eq (lit % 2) 0) [
  | inl even ↦ (
      let here : lit ≡ 2 * (lit / 2) = omega arith in
      let there : other ≡ 2 * (lit / 2) + 1 = omega (arith, same, sign, even) in
      ap values there ∙ negated (lit / 2) ∙ ap (λ (n : ℕ). not (values n)) (sym here))
  | inr odd ↦ (
      let here : lit ≡ 2 * (lit / 2) + 1 = omega (arith, odd) in
      let there : other ≡ 2 * (lit / 2) = omega (arith, same, sign, odd) in
      ap values there ∙ sym (not-not (values (2 * (lit / 2)))) ∙ ap not (sym (negated (lit / 2))) ∙ ap (λ (n : ℕ). not (values n)) (sym here))
]

-- where it is 1, the literal is 0
pub not-one : (values : ℕ → Bool) → IsNegated values → (lit other : ℕ) → other / 2 ≡ lit / 2 → other % 2 ≢ lit % 2 → values other ≡ true → values lit ≡ false
not-one values negated lit other same sign one =
    sym (not-not (values lit)) ∙ ap not (sym (not-value values negated lit other same sign) ∙ one)

-- where the literal is 0, it is 1
pub not-zero : (values : ℕ → Bool) → IsNegated values → (lit other : ℕ) → other / 2 ≡ lit / 2 → other % 2 ≢ lit % 2 → values lit ≡ false → values other ≡ true
not-zero values negated lit other same sign zero = not-value values negated lit other same sign ∙ ap not zero

-- no value is both
pub true-false : (b : Bool) → b ≡ true → b ≡ false → ⊥
true-false b one zero = cc

-- a value that isn't 1 is 0
pub not-true-false : (b : Bool) → (b ≡ true → ⊥) → b ≡ false
not-true-false true other = absurd (other refl)
not-true-false false other = refl

-- the negated constant is 1
pub one-true : (values : ℕ → Bool) → values 0 ≡ false → IsNegated values → values 1 ≡ true
one-true values constant negated = negated 0 ∙ ap not constant
