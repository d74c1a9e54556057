-- The numbers that pass a test, how many of them there are, and numberings by rank.
use Rattle.std.specs.Prelude.{ℕ, ◌+◌, ◌++◌, Bool, List, [], ◌∷◌, if◌then◌else◌, zero, suc}

-- how many numbers below n pass the test
unfoldable pub count_below : (ℕ → Bool) → ℕ → ℕ
count_below p zero = 0
count_below p (suc n) = count_below p n + (if p n then 1 else 0)

-- the numbers below n that pass, in increasing order
unfoldable pub places : (ℕ → Bool) → ℕ → List ℕ
places p zero = []
places p (suc n) = places p n ++ (if p n then n ∷ [] else [])

-- what passes p gets the numbers from first on, what passes only q those from next on, and the
-- others stay
unfoldable pub numbered : (ℕ → Bool) → (ℕ → Bool) → ℕ → ℕ → ℕ → ℕ
numbered p q first next v = if p v then first + count_below p v else (if q v then next + count_below q v else v)
