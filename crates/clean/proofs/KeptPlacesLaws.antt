-- n rising numbers below n are all of them.
use Rattle.std.proofs.Common.{ℕ, ◌+◌, ◌<◌, ◌≤◌, ◌≡◌, suc, zero, List, [], ◌∷◌, ◌++◌, length, refl, arith, ap, ◌∙◌}
use Rattle.std.specs.List.{All, range_with_len}
use Rattle.std.specs.List.Sorted.{IsStrictlyIncreasing}
use Rattle.std.proofs.lemmas.List.Elements.{All-head, All-tail}
use Rattle.aig_graph.proofs.MemberLaws.{rising_rest}

-- what follows the head lies above it
tail_above : (x y : ℕ) (ys : List ℕ) → IsStrictlyIncreasing (x ∷ y ∷ ys) → x < y
tail_above x y ys rising = rising 0 (omega arith)

-- as many numbers as the list has lie between its head and the bound
room : (x bound : ℕ) (xs : List ℕ) → IsStrictlyIncreasing (x ∷ xs) → All (λ y. y < bound) (x ∷ xs) → x + suc (length xs) ≤ bound
room x bound [] rising below = omega (arith, All-head (λ (y : ℕ). y < bound) x [] below)
room x bound (y ∷ ys) rising below =
    omega (arith, tail_above x y ys rising, room y bound ys (rising_rest x (y ∷ ys) rising) (All-tail (λ (z : ℕ). z < bound) x (y ∷ ys) below))

from_head : (n x a : ℕ) (xs : List ℕ) → a ≤ x → length xs ≡ n → IsStrictlyIncreasing (x ∷ xs) → All (λ y. y < a + suc n) (x ∷ xs) → x ∷ xs ≡ range_with_len a (suc n)
from_head zero x a [] low long rising below =
    let here : x ≡ a = omega (arith, low, All-head (λ (y : ℕ). y < a + 1) x [] below) in
    ap (λ (n : ℕ). n ∷ []) here
from_head zero x a (y ∷ ys) low long rising below = absurd (omega (arith, long))
from_head (suc n) x a [] low long rising below = absurd (omega (arith, long))
from_head (suc n) x a (y ∷ ys) low long rising below =
    let here : x ≡ a = omega (arith, low, long, room x (a + suc (suc n)) (y ∷ ys) rising below) in
    let rest : y ∷ ys ≡ range_with_len (a + 1) (suc n) =
    from_head n y (a + 1) ys (omega (arith, here, tail_above x y ys rising)) (omega (arith, long)) (rising_rest x (y ∷ ys) rising)
    (λ k d h. omega (arith, All-tail (λ (z : ℕ). z < a + suc (suc n)) x (y ∷ ys) below k d h)) in
    ap (λ (b : ℕ). b ∷ y ∷ ys) here ∙ ap (λ (zs : List ℕ). a ∷ zs) rest

-- n rising numbers below n are all numbers below n, in order
pub all-below : (n : ℕ) (xs : List ℕ) → length xs ≡ n → IsStrictlyIncreasing xs → All (λ y. y < n) xs → xs ≡ range_with_len 0 n
all-below zero [] long rising below = refl
all-below zero (x ∷ xs) long rising below = absurd (omega (arith, long))
all-below (suc n) [] long rising below = absurd (omega (arith, long))
all-below (suc n) (x ∷ xs) long rising below =
    from_head n x 0 xs (omega arith) (omega (arith, long)) rising (λ k d h. omega (arith, below k d h))

-- one more number
pub range-more : (a n : ℕ) → range_with_len a n ++ (a + n) ∷ [] ≡ range_with_len a (n + 1)
range-more a zero = let place : a + 0 ≡ a = omega arith in ap (λ (x : ℕ). x ∷ []) place
range-more a (suc n) =
    let last : a + suc n ≡ a + 1 + n = omega arith in
    let long : suc (n + 1) ≡ suc n + 1 = omega arith in
    ap (λ (x : ℕ). a ∷ (range_with_len (a + 1) n ++ x ∷ [])) last ∙ ap (λ (xs : List ℕ). a ∷ xs) (range-more (a + 1) n) ∙ ap (range_with_len a) long

-- one more number from 0 on
pub range-next : (n : ℕ) → range_with_len 0 n ++ n ∷ [] ≡ range_with_len 0 (n + 1)
range-next n = let place : n ≡ 0 + n = omega arith in ap (λ (x : ℕ). range_with_len 0 n ++ x ∷ []) place ∙ range-more 0 n
