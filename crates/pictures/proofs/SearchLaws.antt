-- Searches of a list that end at what they find.
use Rattle.std.proofs.Common.{ℕ, ◌+◌, ◌<◌, ◌≡◌, ◌||◌, ◌&&◌, Bool, true, false, suc, zero, List, [], ◌∷◌, length, take, get_or, arith, ap, ap₂, sym, ◌∙◌}
use Rattle.std.specs.List.{list_all, list_any}
use Rattle.std.proofs.lemmas.Bool.{and_right, or_right}
use Rattle.std.proofs.lemmas.List.Folds.{list_all_more, list_any_more}

module _ {X : Type 0} (p : X → Bool) where
  -- one that passes is found
  pub any-found : (xs : List X) (i : ℕ) (x : X) → i < length xs → x ≡ get_or xs i x → p x ≡ true → list_any p xs ≡ true
  any-found [] i x h there passes = absurd (omega (arith, h))
  any-found (y ∷ xs) zero x h there passes = ap (λ (b : Bool). b || list_any p xs) (sym (ap p there) ∙ passes)
  any-found (y ∷ xs) (suc i) x h there passes = or_right (p y) _ (any-found xs i x (omega (arith, h)) there passes)

  -- if one fails, not all pass
  pub all-fails : (xs : List X) (i : ℕ) (x : X) → i < length xs → x ≡ get_or xs i x → p x ≡ false → list_all p xs ≡ false
  all-fails [] i x h there fails = absurd (omega (arith, h))
  all-fails (y ∷ xs) zero x h there fails = ap (λ (b : Bool). b && list_all p xs) (sym (ap p there) ∙ fails)
  all-fails (y ∷ xs) (suc i) x h there fails = and_right (p y) _ (all-fails xs i x (omega (arith, h)) there fails)

  -- one more that fails
  pub none-more : (xs : List X) (i : ℕ) (x : X) → i < length xs → x ≡ get_or xs i x → list_any p (take i xs) ≡ false → p x ≡ false → list_any p (take (i + 1) xs) ≡ false
  none-more xs i x h there before fails = list_any_more p xs i x h ∙ ap₂ (λ (a b : Bool). a || b) before (sym (ap p there) ∙ fails)

  -- one more that passes
  pub all-more : (xs : List X) (i : ℕ) (x : X) → i < length xs → x ≡ get_or xs i x → list_all p (take i xs) ≡ true → p x ≡ true → list_all p (take (i + 1) xs) ≡ true
  all-more xs i x h there before passes = list_all_more p xs i x h ∙ ap₂ (λ (a b : Bool). a && b) before (sym (ap p there) ∙ passes)
