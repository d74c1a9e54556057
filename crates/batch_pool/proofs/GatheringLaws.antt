-- Drawers that come back, one after another.
use Rattle.std.proofs.Common.{◌≡◌, ℕ, zero, suc, ◌+◌, ◌<◌, List, [], ◌∷◌, ◌++◌, All, length, refl, sym, ap, ◌∙◌, arith}
use Rattle.batch_pool.specs.declared.draws.Drawer.{Drawer}
use Rattle.batch_pool.specs.Rule.{weigh, weigh_below, total, is_it, is_past, past}
use Rattle.batch_pool.specs.Drawing.{drawn, times_drawn}
use Rattle.batch_pool.proofs.WeightLaws.{weigh_append, total_snoc, past_below, once_below}

module _ {A : Type 0} (P : A → Type 0) where
  -- what holds of all elements of a list that isn't empty holds of its last one
  pub last_of_all : (xs : List A) (x : A) → All P (xs ++ x ∷ []) → P x
  last_of_all [] x h = h 0 x (omega arith)
  last_of_all (y ∷ ys) x h = last_of_all ys x (λ k d lt. h (suc k) d (omega (arith, lt)))

  -- what holds of all elements of a list holds of those before its last one
  pub front_of_all : (xs : List A) (x : A) → All P (xs ++ x ∷ []) → All P xs
  front_of_all [] x h k d lt = absurd (omega arith)
  front_of_all (y ∷ ys) x h zero d lt = h zero d (omega arith)
  front_of_all (y ∷ ys) x h (suc k) d lt = front_of_all ys x (λ j e less. h (suc j) e (omega (arith, less))) k d (omega (arith, lt))

-- over an empty list the total is 0
pub total_none : {A : Type 0} (f : A → ℕ) (xs : List A) → length xs ≡ 0 → total f xs ≡ 0
total_none f [] none = refl
total_none f (x ∷ xs) none = absurd (omega arith)

-- if each drawer drew one number that is no job, as many such numbers were drawn as there are
-- drawers
pub all_done : (jobs : ℕ) (ds : List Drawer) → All (λ d. past jobs (drawn d) ≡ 1) ds → total (λ d. past jobs (drawn d)) ds ≡ length ds
all_done jobs [] h = refl
all_done jobs (d ∷ ds) h = let one = h 0 d (omega arith) in let r = all_done jobs ds (λ k e lt. h (suc k) e (omega (arith, lt))) in omega (arith, one, r)

-- what a seat has and what the other drawers have is what all had
abbrev pub Has : List ℕ → List Drawer → List Drawer → Type 0
Has mine left all = (h : ℕ → ℕ) → weigh h mine + total (λ d. weigh h (drawn d)) left ≡ total (λ d. weigh h (drawn d)) all

-- what the last drawer drew and what those before it drew is what all drew
pub has_first : (all left : List Drawer) (d : Drawer) → all ≡ left ++ d ∷ [] → Has (drawn d) left all
has_first all left d is h = (let t = total_snoc (λ d. weigh h (drawn d)) left d in omega (arith, t)) ∙ ap (total (λ d. weigh h (drawn d))) (sym is)

-- with what the next drawer drew, a seat and the drawers that are left have what all drew
pub has_more : (mine new : List ℕ) (was left all : List Drawer) (d : Drawer) → was ≡ left ++ d ∷ [] → new ≡ mine ++ drawn d → Has mine was all → Has new left all
has_more mine new was left all d is now has h =
    let f : Drawer → ℕ = λ d. weigh h (drawn d) in
    let t = total_snoc f left d in
    let w : total f was ≡ total f (left ++ d ∷ []) = ap (total f) is in
    let n : weigh h new ≡ weigh h (mine ++ drawn d) = ap (weigh h) now in
    let a = weigh_append h mine (drawn d) in
    let r = has h in
    omega (arith, t, w, n, a, r)

-- all drawers' numbers are those below the word: each job stands once
pub each_once : (jobs word : ℕ) (mine : List ℕ) (left all : List Drawer) → 0 < length all → length left ≡ 0 → Has mine left all → All (λ d. past jobs (drawn d) ≡ 1) all
    → ((h : ℕ → ℕ) → weigh h mine ≡ weigh_below h word) → (x : ℕ) → x < jobs → times_drawn x all ≡ 1
each_once jobs word mine left all some_drawer none has done tally x lt =
    let p = has (is_past jobs) in let z = total_none (λ d. weigh (is_past jobs) (drawn d)) left none in
    let q = tally (is_past jobs) in let b = past_below jobs word in let d = all_done jobs all done in
    let far : x < word = omega (arith, p, z, q, b, d, lt, some_drawer) in
    let e = has (is_it x) in let z' = total_none (λ d. weigh (is_it x) (drawn d)) left none in let t = tally (is_it x) in let o = once_below x word far in
    omega (arith, e, z', t, o)
