-- Equality of two literals, by two questions.
use Rattle.std.proofs.Common.{ℕ, ◌/◌, ◌%◌, ◌≡◌, ◌≢◌, ◌<◌, suc, zero, [], ◌∷◌, Bool, true, false, arith, refl, sym, ◌∙◌}
use Rattle.std.specs.List.{slice_index_or}
use Rattle.aig_graph.specs.Gates.{AreEqualIn, Gates, Refutes}
use Rattle.unit_refutations.proofs.SignLaws.{not-zero}

-- what holds of two literals holds of all of them
all-two : (P : ℕ → Type 0) (a b : ℕ) → P a → P b → (k d : ℕ) → k < 2 → P (slice_index_or (a ∷ b ∷ []) k d)
all-two P a b p q zero d h = p
all-two P a b p q (suc zero) d h = q
all-two P a b p q (suc (suc k)) d h = absurd (omega (arith, h))

-- two literals of which neither can be 1 without the other are equal
pub equal-refuted : (k : Gates) (a b not_a not_b : ℕ) → not_a / 2 ≡ a / 2 → not_a % 2 ≢ a % 2 → not_b / 2 ≡ b / 2 → not_b % 2 ≢ b % 2
    → Refutes k (a ∷ not_b ∷ []) → Refutes k (not_a ∷ b ∷ []) → AreEqualIn k a b
equal-refuted k a b not_a not_b same_a sign_a same_b sign_b first second values respects = go (values a) (values b) refl refl
  where
    go : (x y : Bool) → values a ≡ x → values b ≡ y → values a ≡ values b
    go true true p q = p ∙ sym q
    go false false p q = p ∙ sym q
    go true false p q = absurd (first values respects (all-two (λ lit. values lit ≡ true) a not_b p (not-zero values respects.negation b not_b same_b sign_b q)))
    go false true p q = absurd (second values respects (all-two (λ lit. values lit ≡ true) not_a b (not-zero values respects.negation a not_a same_a sign_a p) q))
