-- Sums and least values below a number.
use Rattle.std.proofs.Common.{◌≡◌, ℕ, suc, zero, ◌+◌, ◌*◌, ◌<◌, ◌≤◌, min, max, arith, refl, sym, subst, inl, inr}
use Rattle.std.proofs.lemmas.Bool.{cases_lt}
use Rattle.frame_net.specs.Flow.{sum_below, least_below, greatest_below}

-- the sum of two functions below n is the sum of their sums
pub sum_below-add : (n : ℕ) (f g : ℕ → ℕ) → sum_below n (λ i. f i + g i) ≡ sum_below n f + sum_below n g
sum_below-add zero f g = refl
sum_below-add (suc n) f g = omega (arith, sum_below-add n f g)

-- functions that agree below n have equal sums there
pub sum_below-same : (n : ℕ) (f g : ℕ → ℕ) → ((i : ℕ) → i < n → f i ≡ g i) → sum_below n f ≡ sum_below n g
sum_below-same zero f g e = refl
sum_below-same (suc n) f g e = omega (arith, sum_below-same n f g (λ i h. e i (omega arith)), e n (omega arith))

-- if no term is greater, the sum isn't
pub sum_below-le : (n : ℕ) (f g : ℕ → ℕ) → ((i : ℕ) → i < n → f i ≤ g i) → sum_below n f ≤ sum_below n g
sum_below-le zero f g e = omega arith
sum_below-le (suc n) f g e = omega (arith, sum_below-le n f g (λ i h. e i (omega arith)), e n (omega arith))

-- a sum of zeros is 0
pub sum_below-zero : (n : ℕ) → sum_below n (λ i. 0) ≡ 0
sum_below-zero zero = refl
sum_below-zero (suc n) = omega (arith, sum_below-zero n)

-- the sum over rows is the sum over columns
pub sum_below-swap : (m n : ℕ) (f : ℕ → ℕ → ℕ) → sum_below m (λ i. sum_below n (f i)) ≡ sum_below n (λ j. sum_below m (λ i. f i j))
sum_below-swap zero n f = sym (sum_below-zero n)
sum_below-swap (suc m) n f = omega (arith, sum_below-swap m n f, sum_below-add n (λ j. sum_below m (λ i. f i j)) (f m))

-- one term is within the sum of the terms up to it, and that within the whole
pub sum_below-mono : (m n : ℕ) (f : ℕ → ℕ) → m ≤ n → sum_below m f ≤ sum_below n f
sum_below-mono m zero f h = let e : m ≡ zero = omega arith in subst (λ (k : ℕ). sum_below k f ≤ 0) (sym e) (omega arith)
sum_below-mono m (suc n) f h = elim (cases_lt n m) [
  | inl lt ↦ let e : m ≡ suc n = omega arith in subst (λ (k : ℕ). sum_below k f ≤ sum_below n f + f n) (sym e) (omega arith)
  | inr ge ↦ omega (arith, sum_below-mono m n f ge)
]

-- each term is within the sum
pub term-le-sum_below : (n i : ℕ) (f : ℕ → ℕ) → i < n → f i ≤ sum_below n f
term-le-sum_below n i f h = omega (arith, sum_below-mono (suc i) n f (omega arith))

-- a sum above zero has a term above zero
pub some_term : (n : ℕ) (f : ℕ → ℕ) → 0 < sum_below n f → (i : ℕ) × ((i < n) × (0 < f i))
some_term zero f h = absurd (omega arith)
some_term (suc n) f h = elim (cases_lt 0 (f n)) [
  | inl p ↦ (n, (omega arith, p))
  | inr z ↦ let r = some_term n f (omega arith) in (r.0, (omega arith, r.1.1))
]

-- the least value is at most each value
pub least_below-le : (n i : ℕ) (f : ℕ → ℕ) (m : ℕ) → i < n → least_below n f m ≤ f i
least_below-le zero i f m h = absurd (omega arith)
least_below-le (suc n) i f m h = elim (cases_lt i n) [
  | inl lt ↦ omega (arith, least_below-le n i f m lt)
  | inr ge ↦ let e : i ≡ n = omega arith in subst (λ (k : ℕ). min (least_below n f m) (f n) ≤ f k) (sym e) (omega arith)
]

-- the least value is at most the one that it starts from
pub least_below-le_start : (n : ℕ) (f : ℕ → ℕ) (m : ℕ) → least_below n f m ≤ m
least_below-le_start zero f m = omega arith
least_below-le_start (suc n) f m = omega (arith, least_below-le_start n f m)

-- what is below the start and each value is below the least one
pub lt-least_below : (n : ℕ) (f : ℕ → ℕ) (m d : ℕ) → d < m → ((i : ℕ) → i < n → d < f i) → d < least_below n f m
lt-least_below zero f m d h e = h
lt-least_below (suc n) f m d h e = omega (arith, lt-least_below n f m d h (λ i k. e i (omega arith)), e n (omega arith))

-- each value is at most the greatest one
pub le-greatest_below : (n i : ℕ) (f : ℕ → ℕ) → i < n → f i ≤ greatest_below n f
le-greatest_below zero i f h = absurd (omega arith)
le-greatest_below (suc n) i f h = elim (cases_lt i n) [
  | inl lt ↦ omega (arith, le-greatest_below n i f lt)
  | inr ge ↦ let e : i ≡ n = omega arith in subst (λ (k : ℕ). f k ≤ max (greatest_below n f) (f n)) (sym e) (omega arith)
]

-- what bounds each value bounds the greatest one
pub greatest_below-le : (n : ℕ) (f : ℕ → ℕ) (m : ℕ) → ((i : ℕ) → i < n → f i ≤ m) → greatest_below n f ≤ m
greatest_below-le zero f m e = omega arith
greatest_below-le (suc n) f m e = omega (arith, greatest_below-le n f m (λ i k. e i (omega arith)), e n (omega arith))

-- n terms of at most m sum to at most n times m
pub sum_below-le_const : (n m : ℕ) (f : ℕ → ℕ) → ((i : ℕ) → i < n → f i ≤ m) → sum_below n f ≤ n * m
sum_below-le_const zero m f e = omega arith
sum_below-le_const (suc n) m f e = omega (arith, sum_below-le_const n m f (λ i k. e i (omega arith)), e n (omega arith))

-- one rise is within the rise of the sum
pub rise-le : (n i : ℕ) (f g : ℕ → ℕ) → ((k : ℕ) → k < n → f k ≤ g k) → i < n → sum_below n f + g i ≤ sum_below n g + f i
rise-le zero i f g e h = absurd (omega arith)
rise-le (suc n) i f g e h = elim (cases_lt i n) [
  | inl lt ↦ omega (arith, rise-le n i f g (λ k l. e k (omega arith)) lt, e n (omega arith))
  | inr ge ↦ let q : i ≡ n = omega arith in
      subst (λ (k : ℕ). sum_below n f + f n + g k ≤ sum_below n g + g n + f k) (sym q) (omega (arith, sum_below-le n f g (λ k l. e k (omega arith))))
]
