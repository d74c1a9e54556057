-- Numbers no two of which are equal, counted.
use Rattle.std.proofs.Common.{◌≡◌, ℕ, suc, zero, ◌+◌, ◌≤◌, ◌==◌, Bool, true, false, ◌&&◌, nat_lt, cond, List, [], ◌∷◌, ◌++◌, arith, refl, ap, sym, ◌∙◌, inl, inr}
use Rattle.std.specs.List.{count_by, IsDistinct, AllByRecursion}
use Rattle.std.proofs.lemmas.Bool.{cases_Bool, cond-true, cond-false, eqb-true, eq-eqb, cases_lt, le-ltb, lt-ltb, and_left, and_right, true≢false, false≢true}
use Rattle.aig_graph.specs.Counting.{count_below}
use Rattle.aig_graph.proofs.PlacesLaws.{count-pass, count-fail, one_at_most}
use Rattle.aig_graph.proofs.ListLaws.{count_by-cons}

-- if what passes one test passes one of two others, it counts at most as many numbers as these two
-- together
pub count-le : (p q r : ℕ → Bool) → ((v : ℕ) → cond {A = ℕ} (p v) 1 0 ≤ cond (q v) 1 0 + cond (r v) 1 0) → (xs : List ℕ) → count_by p xs ≤ count_by q xs + count_by r xs
count-le p q r h [] = omega arith
count-le p q r h (x ∷ xs) = omega (arith, h x, count-le p q r h xs, count_by-cons p x xs, count_by-cons q x xs, count_by-cons r x xs)

-- a test that nothing passes counts none of a list
pub count-none : (p : ℕ → Bool) → ((v : ℕ) → p v ≡ false) → (xs : List ℕ) → count_by p xs ≡ 0
count-none p h [] = refl
count-none p h (x ∷ xs) = omega (arith, count_by-cons p x xs, cond-false {A = ℕ} (p x) 1 0 (h x), count-none p h xs)

-- a number that isn't there
count-absent : (x n : ℕ) (xs : List ℕ) → (x == n) ≡ true → AllByRecursion (λ y. (x == y) ≡ false) xs → count_by (λ v. v == n) xs ≡ 0
count-absent x n [] e all = refl
count-absent x n (y ∷ ys) e all =
    let other : (y == n) ≡ false = apart x n y e all.0 in
    omega (arith, count_by-cons (λ v. v == n) y ys, cond-false {A = ℕ} (y == n) 1 0 other, count-absent x n ys e all.1)
  where
    apart : (x n y : ℕ) → (x == n) ≡ true → (x == y) ≡ false → (y == n) ≡ false
    apart x n y e d = elim (cases_Bool (y == n)) [
      | inl yes' ↦ absurd (true≢false (sym e ∙ sym (ap (λ (k : ℕ). x == k) (eqb-true y n yes')) ∙ d))
      | inr no' ↦ no'
    ]

count-once : (n : ℕ) (xs : List ℕ) → IsDistinct (λ v w. v == w) xs → count_by (λ v. v == n) xs ≤ 1
unfolding IsDistinct
count-once n [] d = omega arith
count-once n (x ∷ xs) d = elim (cases_Bool (x == n)) [
  | inl yes' ↦ omega (arith, count_by-cons (λ v. v == n) x xs, cond-true {A = ℕ} (x == n) 1 0 yes', count-absent x n xs yes' d.0)
  | inr no' ↦ omega (arith, count_by-cons (λ v. v == n) x xs, cond-false {A = ℕ} (x == n) 1 0 no', count-once n xs d.1)
]

less : (b : Bool) (v n : ℕ) → (v ≡ n → ⊥) → cond {A = ℕ} (b && nat_lt v (suc n)) 1 0 ≤ cond {A = ℕ} (b && nat_lt v n) 1 0
less b v n other = elim (cases_lt v n) [
  | inl below ↦ omega (arith, one_at_most (b && nat_lt v (suc n)), same b (nat_lt v (suc n)) (nat_lt v n) (lt-ltb v (suc n) (omega (arith, below))) (lt-ltb v n below))
  | inr above ↦ omega (arith, cond-false {A = ℕ} (b && nat_lt v (suc n)) 1 0 (and_right b (nat_lt v (suc n)) (le-ltb v (suc n) (omega (arith, above, other)))))
]
  where
    same : (b x y : Bool) → x ≡ true → y ≡ true → cond {A = ℕ} (b && x) 1 0 ≡ cond {A = ℕ} (b && y) 1 0
    same b x y e f = ap (λ (z : Bool). cond {A = ℕ} (b && z) 1 0) (e ∙ sym f)

-- of numbers no two of which are equal, those below n that pass are at most all that do
pub count-distinct : (p : ℕ → Bool) (xs : List ℕ) → IsDistinct (λ v w. v == w) xs → (n : ℕ) → count_by (λ v. p v && nat_lt v n) xs ≤ count_below p n
count-distinct p xs d zero = omega (arith, count-none (λ v. p v && nat_lt v 0) (λ v. none (p v) v) xs)
  where
    none : (b : Bool) (v : ℕ) → (b && nat_lt v 0) ≡ false
    none b v = and_right b (nat_lt v 0) (le-ltb v 0 (omega arith))
count-distinct p xs d (suc n) = elim (cases_Bool (p n)) [
  | inl yes' ↦ omega (
    arith,
    count-distinct p xs d n,
    count-pass p n yes',
    count-once n xs d,
    count-le (λ v. p v && nat_lt v (suc n)) (λ v. p v && nat_lt v n) (λ v. v == n) (λ v. split (p v) v n) xs,
  )
  | inr no' ↦ omega (
    arith,
    count-distinct p xs d n,
    count-fail p n no',
    count-none (λ v. false) (λ v. refl) xs,
    count-le (λ v. p v && nat_lt v (suc n)) (λ v. p v && nat_lt v n) (λ v. false) (λ v. split_off (p v) v n (λ e. ap p e ∙ no')) xs,
  )
]
  where
    split : (b : Bool) (v n : ℕ) → cond {A = ℕ} (b && nat_lt v (suc n)) 1 0 ≤ cond (b && nat_lt v n) 1 0 + cond (v == n) 1 0
    split b v n = elim (cases_Bool (v == n)) [
      | inl yes' ↦ omega (arith, cond-true {A = ℕ} (v == n) 1 0 yes', one_at_most (b && nat_lt v (suc n)))
      | inr no' ↦ omega (arith, less b v n (λ e. false≢true (sym no' ∙ eq-eqb v n e)))
    ]

    split_off : (b : Bool) (v n : ℕ) → (v ≡ n → b ≡ false) → cond {A = ℕ} (b && nat_lt v (suc n)) 1 0 ≤ cond (b && nat_lt v n) 1 0 + cond {A = ℕ} false 1 0
    split_off b v n h = elim (cases_Bool (v == n)) [
      | inl yes' ↦ omega (arith, cond-false {A = ℕ} (b && nat_lt v (suc n)) 1 0 (and_left b (nat_lt v (suc n)) (h (eqb-true v n yes'))))
      | inr no' ↦ omega (arith, less b v n (λ e. false≢true (sym no' ∙ eq-eqb v n e)))
    ]

-- of two lists that are joined, those that pass are counted in each
pub count-append : (p : ℕ → Bool) (xs ys : List ℕ) → count_by p (xs ++ ys) ≡ count_by p xs + count_by p ys
count-append p [] ys = omega arith
count-append p (x ∷ xs) ys = omega (arith, count_by-cons p x (xs ++ ys), count_by-cons p x xs, count-append p xs ys)
