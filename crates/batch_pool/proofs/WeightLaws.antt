-- Weights of lists of numbers, and of the numbers below a bound.
use Rattle.std.proofs.Common.{◌≡◌, ◌≢◌, ℕ, zero, suc, ◌+◌, ◌-◌, ◌<◌, ◌≤◌, cond, Bool, List, [], ◌∷◌, ◌++◌, All, length, set, refl, sym, ap, ◌∙◌, arith, lt-ltb, eq-eqb, ne_eqb, le-ltb, lt_of_not-le}
use mathlib.Core.Logic.{dite}
use mathlib.Core.Option.{some, some-injective, some-ne-none}
use native.Mathlib.Decide.{dec_le, ℕ_discrete}
use lib.ListN.{get_elem?}
use Rattle.batch_pool.specs.Rule.{weigh, weigh_below, total, is_it, is_past, past}

-- joined lists weigh what both weigh
pub weigh_append : (h : ℕ → ℕ) (xs ys : List ℕ) → weigh h (xs ++ ys) ≡ weigh h xs + weigh h ys
weigh_append h [] ys = omega arith
weigh_append h (x ∷ xs) ys = let r = weigh_append h xs ys in omega (arith, r)

-- a number at the end adds its weight
pub weigh_snoc : (h : ℕ → ℕ) (xs : List ℕ) (y : ℕ) → weigh h (xs ++ y ∷ []) ≡ weigh h xs + h y
weigh_snoc h xs y = let r = weigh_append h xs (y ∷ []) in omega (arith, r)

module _ {A : Type 0} where
  -- functions with equal values have equal totals over a list
  pub total_same : (f g : A → ℕ) (l : List A) → ((x : A) → f x ≡ g x) → total f l ≡ total g l
  total_same f g [] same = refl
  total_same f g (x ∷ xs) same = let r = total_same f g xs same in let here = same x in omega (arith, r, here)

  -- the total after a change of one
  pub total_set : (f : A → ℕ) (l : List A) (i : ℕ) (v w : A) → get_elem? l i ≡ some v → total f (set l i w) + f v ≡ total f l + f w
  total_set f [] i v w e = absurd (some-ne-none v (sym e))
  total_set f (x ∷ xs) zero v w e = let is : f x ≡ f v = ap f (some-injective x v e) in omega arith
  total_set f (x ∷ xs) (suc i) v w e = let r = total_set f xs i v w e in omega arith

  -- an element at the end adds its value to the total
  pub total_snoc : (f : A → ℕ) (l : List A) (w : A) → total f (l ++ w ∷ []) ≡ total f l + f w
  total_snoc f [] w = omega arith
  total_snoc f (x ∷ xs) w = let r = total_snoc f xs w in omega (arith, r)

  -- if no value is greater, the total isn't
  pub total_le : (f g : A → ℕ) (l : List A) → ((i : ℕ) (v : A) → get_elem? l i ≡ some v → f v ≤ g v) → total f l ≤ total g l
  total_le f g [] h = omega arith
  total_le f g (x ∷ xs) h = let r = total_le f g xs (λ i v e. h (suc i) v e) in let a : f x ≤ g x = h zero x refl in omega (arith, r, a)

  -- if f is 0 wherever g is, and g has the total 0, so has f
  pub total_zero : (f g : A → ℕ) (l : List A) → ((i : ℕ) (v : A) → get_elem? l i ≡ some v → g v ≡ 0 → f v ≡ 0) → total g l ≡ 0 → total f l ≡ 0
  total_zero f g [] h none = refl
  total_zero f g (x ∷ xs) h none = let a : f x ≡ 0 = h zero x refl (omega arith) in let r = total_zero f g xs (λ i v e. h (suc i) v e) (omega arith) in omega arith

  -- each element's value is within the total
  pub total_has : (g : A → ℕ) (l : List A) (i : ℕ) (v : A) → get_elem? l i ≡ some v → g v ≤ total g l
  total_has g [] i v e = absurd (some-ne-none v (sym e))
  total_has g (x ∷ xs) zero v e = let is : g x ≡ g v = ap g (some-injective x v e) in omega arith
  total_has g (x ∷ xs) (suc i) v e = let r = total_has g xs i v e in omega arith

  -- if one has all of g, and f is nothing if g is, it has all of f
  pub total_only : (f g : A → ℕ) (l : List A) (i : ℕ) (v : A) → ((j : ℕ) (w : A) → get_elem? l j ≡ some w → g w ≡ 0 → f w ≡ 0) → get_elem? l i ≡ some v → total g l ≡ g v → total f l ≡ f v
  total_only f g [] i v h e all = absurd (some-ne-none v (sym e))
  total_only f g (x ∷ xs) zero v h e all = let is : f x ≡ f v = ap f (some-injective x v e) in let is' : g x ≡ g v = ap g (some-injective x v e) in
      let r = total_zero f g xs (λ j w e'. h (suc j) w e') (omega arith) in omega arith
  total_only f g (x ∷ xs) (suc i) v h e all = let le = total_has g xs i v e in let a : f x ≡ 0 = h zero x refl (omega arith) in let r = total_only f g xs i v (λ j w e'. h (suc j) w e') e (omega arith) in omega arith

-- a number of a job isn't counted among those past the jobs
pub is_past_job : (jobs y : ℕ) → y < jobs → is_past jobs y ≡ 0
is_past_job jobs y lt = ap (λ (b : Bool). cond {A = ℕ} b 0 1) (lt-ltb y jobs lt)

-- a number from the jobs on is counted once among those past them
pub is_past_none : (jobs y : ℕ) → jobs ≤ y → is_past jobs y ≡ 1
is_past_none jobs y le = ap (λ (b : Bool). cond {A = ℕ} b 0 1) (le-ltb y jobs le)

-- a number is counted at most once among those past the jobs
pub is_past_le : (jobs y : ℕ) → is_past jobs y ≤ 1
is_past_le jobs y = dite (dec_le jobs y) (λ le. let e = is_past_none jobs y le in omega (arith, e)) (λ no. let e = is_past_job jobs y (lt_of_not-le no) in omega (arith, e))

-- of the numbers below n, all from jobs on are no jobs
pub past_below : (jobs n : ℕ) → weigh_below (is_past jobs) n ≡ n - jobs
past_below jobs zero = omega arith
past_below jobs (suc n) = let r = past_below jobs n in dite (dec_le jobs n)
    (λ le. let e = is_past_none jobs n le in omega (arith, e, r))
    (λ no. let e = is_past_job jobs n (lt_of_not-le no) in let lt = lt_of_not-le no in omega (arith, e, r, lt))

is_it_here : (x : ℕ) → is_it x x ≡ 1
is_it_here x = ap (λ (b : Bool). cond {A = ℕ} b 1 0) (eq-eqb x x refl)

-- a number is not counted as another one
pub is_it_else : (x y : ℕ) → y ≢ x → is_it x y ≡ 0
is_it_else x y ne = ap (λ (b : Bool). cond {A = ℕ} b 1 0) (ne_eqb y x ne)

-- a number from n on is counted never among the numbers below n
pub none_below : (x n : ℕ) → n ≤ x → weigh_below (is_it x) n ≡ 0
none_below x zero le = refl
none_below x (suc n) le = let r = none_below x n (omega arith) in let e = is_it_else x n (λ is. omega (arith, is)) in omega (arith, r, e)

-- each number below n stands below n once
pub once_below : (x n : ℕ) → x < n → weigh_below (is_it x) n ≡ 1
once_below x zero lt = absurd (omega arith)
once_below x (suc n) lt = dite (ℕ_discrete n x)
    (λ is. let r = none_below x n (omega (arith, is)) in let e : is_it x n ≡ 1 = ap (is_it x) is ∙ is_it_here x in omega (arith, r, e))
    (λ ne. let r = once_below x n (omega (arith, ne)) in let e = is_it_else x n ne in omega (arith, r, e))

-- what is below n, if no number of the list is from n on
not_past : (n x : ℕ) → is_past n x ≡ 0 → x < n
not_past n x none = dite (dec_le n x) (λ le. let e = is_past_none n x le in absurd (omega (arith, e, none))) (λ no. let lt = lt_of_not-le no in lt)

-- if no number of a list is counted as past n, all are below n
pub all_below : (n : ℕ) (xs : List ℕ) → past n xs ≡ 0 → All (λ x. x < n) xs
all_below n [] none k d lt = absurd (omega (arith, lt))
all_below n (x ∷ xs) none zero d lt = not_past n x (omega (arith, none))
all_below n (x ∷ xs) none (suc k) d lt = all_below n xs (omega (arith, none)) k d (omega (arith, lt))

-- weights of 1 count
pub weigh_ones : (xs : List ℕ) → weigh (λ _. 1) xs ≡ length xs
weigh_ones [] = refl
weigh_ones (x ∷ xs) = let r = weigh_ones xs in omega (arith, r)

-- with weights of 1 the numbers below n weigh n
pub ones_below : (n : ℕ) → weigh_below (λ _. 1) n ≡ n
ones_below zero = refl
ones_below (suc n) = let r = ones_below n in omega (arith, r)
