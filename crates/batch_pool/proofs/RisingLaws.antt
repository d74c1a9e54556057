-- Numbers that rise: how far a worker's draws have come.
use Rattle.std.proofs.Common.{◌≡◌, ℕ, suc, ◌+◌, ◌<◌, ◌≤◌, List, [], ◌∷◌, ◌++◌, All, refl, arith}

-- one past the last number of the list
abbrev pub after_last : List ℕ → ℕ
after_last [] = 0
after_last (x ∷ []) = x + 1
after_last (x ∷ y ∷ xs) = after_last (y ∷ xs)

-- one past the last number of a list that ends with n is n + 1
pub after_last_snoc : (xs : List ℕ) (n : ℕ) → after_last (xs ++ n ∷ []) ≡ n + 1
after_last_snoc [] n = refl
after_last_snoc (x ∷ []) n = refl
after_last_snoc (x ∷ y ∷ xs) n = after_last_snoc (y ∷ xs) n

-- one past the last of numbers below n is at most n
pub after_last_le : (n : ℕ) (xs : List ℕ) → All (λ x. x < n) xs → after_last xs ≤ n
after_last_le n [] below = omega arith
after_last_le n (x ∷ []) below = let b : x < n = below 0 x (omega arith) in omega (arith, b)
after_last_le n (x ∷ y ∷ xs) below = after_last_le n (y ∷ xs) (λ k d lt. below (suc k) d (omega (arith, lt)))
