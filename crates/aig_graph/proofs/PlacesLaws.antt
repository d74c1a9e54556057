-- The list of the numbers that pass, and the rank of each.
use Rattle.std.proofs.Common.{◌⊎◌, ℕ, ◌+◌, ◌<◌, ◌≤◌, ◌≡◌, inl, inr, suc, zero, List, [], ◌∷◌, ◌++◌, length, take, Bool, true, false, cond, Some, None, slice_get, refl, arith, ap, sym, ◌∙◌, add-zero}
use Rattle.std.proofs.lemmas.Bool.{cases_eq, cases_Bool}
use Rattle.std.proofs.lemmas.Option.{none-some, same_Some}
use Rattle.std.proofs.lemmas.List.{append-nil, take_all, take-append-le, length_push}
use Rattle.aig_graph.specs.Counting.{count_below, places}

-- a number that passes stands last in the list of those up to it
pub places-pass : (p : ℕ → Bool) (n : ℕ) → p n ≡ true → places p (suc n) ≡ places p n ++ n ∷ []
unfolding places
places-pass p n e = ap (λ (b : Bool). places p n ++ cond b (n ∷ []) []) e

-- a number that doesn't pass leaves the list of places as it is
pub places-fail : (p : ℕ → Bool) (n : ℕ) → p n ≡ false → places p (suc n) ≡ places p n
unfolding places
places-fail p n e = ap (λ (b : Bool). places p n ++ cond b (n ∷ []) []) e ∙ append-nil (places p n)

-- a number that passes adds one to the count
pub count-pass : (p : ℕ → Bool) (n : ℕ) → p n ≡ true → count_below p (suc n) ≡ count_below p n + 1
unfolding count_below
count-pass p n e = ap (λ (b : Bool). count_below p n + cond b 1 0) e

-- a number that doesn't pass leaves the count as it is
pub count-fail : (p : ℕ → Bool) (n : ℕ) → p n ≡ false → count_below p (suc n) ≡ count_below p n
unfolding count_below
count-fail p n e = ap (λ (b : Bool). count_below p n + cond b 1 0) e ∙ add-zero (count_below p n)

-- below 0 no number passes
pub count-zero : (p : ℕ → Bool) → count_below p 0 ≡ 0
unfolding count_below
count-zero p = refl

-- below 0 there are no places
pub places-zero : (p : ℕ → Bool) → places p 0 ≡ []
unfolding places
places-zero p = refl

-- there are as many places as numbers that pass
pub length-places : (p : ℕ → Bool) (n : ℕ) → length (places p n) ≡ count_below p n
length-places p zero = rw (places-zero p, count-zero p)
length-places p (suc n) = elim (cases_Bool (p n)) [
  | inl good ↦ rw (places-pass p n good, count-pass p n good) (length_push (places p n) n ∙ ap (λ (m : ℕ). m + 1) (length-places p n))
  | inr fails ↦ rw (places-fail p n fails, count-fail p n fails) (length-places p n)
]

-- the count only grows
pub count-le : (p : ℕ → Bool) (v n : ℕ) → v ≤ n → count_below p v ≤ count_below p n
count-le p v zero h = let same : v ≡ 0 = omega arith in rw same (omega arith)
count-le p v (suc n) h = elim (cases_eq v (suc n)) [
  | inl same ↦ rw same (omega arith)
  | inr other ↦ (
      let before : count_below p v ≤ count_below p n = count-le p v n (omega arith) in
      elim (cases_Bool (p n)) [
        | inl good ↦ rw (count-pass p n good) (omega arith)
        | inr fails ↦ rw (count-fail p n fails) before
      ])
]

-- a number that passes has a rank below the count of all
pub count-lt : (p : ℕ → Bool) (v n : ℕ) → v < n → p v ≡ true → count_below p v < count_below p n
count-lt p v n h good =
    let step : count_below p (suc v) ≡ count_below p v + 1 = count-pass p v good in
    let rest : count_below p (suc v) ≤ count_below p n = count-le p (suc v) n (omega arith) in
    omega arith

-- a number that passes or not adds at most one
pub one_at_most : (b : Bool) → cond {A = ℕ} b 1 0 ≤ 1
one_at_most true = omega arith
one_at_most false = omega arith

-- at most n numbers below n pass
pub count-bound : (p : ℕ → Bool) (n : ℕ) → count_below p n ≤ n
count-bound p zero = rw (count-zero p) (omega arith)
count-bound p (suc n) =
    let before : count_below p n ≤ n = count-bound p n in
    elim (cases_Bool (p n)) [
      | inl good ↦ rw (count-pass p n good) (omega arith)
      | inr fails ↦ rw (count-fail p n fails) (omega arith)
    ]

-- an element of a list with one more at the end
pub slice_get_push : {A : Type 0} (xs : List A) (y : A) (k : ℕ) (x : A) → slice_get (xs ++ y ∷ []) k ≡ Some x
    → (slice_get xs k ≡ Some x) ⊎ ((k ≡ length xs) × (x ≡ y))
slice_get_push [] y zero x e = inr (refl, same_Some x y (sym e))
slice_get_push [] y (suc k) x e = absurd (none-some x e)
slice_get_push (z ∷ zs) y zero x e = inl e
slice_get_push (z ∷ zs) y (suc k) x e = elim (slice_get_push zs y k x e) [ inl h ↦ inl h | inr h ↦ inr (ap suc h.0, h.1) ]

-- what a list has at a place it has there with another list behind it
pub slice_get-append_left : {A : Type 0} (xs ys : List A) (k : ℕ) (x : A) → slice_get xs k ≡ Some x → slice_get (xs ++ ys) k ≡ Some x
slice_get-append_left [] ys k x e = absurd (none-some x e)
slice_get-append_left (z ∷ zs) ys zero x e = e
slice_get-append_left (z ∷ zs) ys (suc k) x e = slice_get-append_left zs ys k x e

-- past the first of two joined lists stands what the second one has
pub slice_get-append_right : {A : Type 0} (xs ys : List A) (k : ℕ) → slice_get (xs ++ ys) (length xs + k) ≡ slice_get ys k
slice_get-append_right [] ys k = ap (λ (n : ℕ). slice_get ys n) (omega arith)
slice_get-append_right (z ∷ zs) ys k =
    let step : length (z ∷ zs) + k ≡ suc (length zs + k) = omega arith in
    ap (λ (n : ℕ). slice_get (z ∷ zs ++ ys) n) step ∙ slice_get-append_right zs ys k

-- what passes stands at its rank
pub at_rank : (p : ℕ → Bool) (n v : ℕ) → v < n → p v ≡ true → slice_get (places p n) (count_below p v) ≡ Some v
at_rank p zero v h good = absurd (omega arith)
at_rank p (suc n) v h good = elim (cases_eq v n) [
  | inl same ↦ (
      let here : p n ≡ true = ap p (sym same) ∙ good in
      let place : count_below p v ≡ length (places p n) + 0 = ap (λ (w : ℕ). count_below p w) same ∙ sym (length-places p n) ∙ sym (add-zero (length (places p n))) in
      rw (places-pass p n here, place) (slice_get-append_right (places p n) (n ∷ []) 0 ∙ ap (λ (w : ℕ). Some w) (sym same)))
  | inr other ↦ (
      let before : slice_get (places p n) (count_below p v) ≡ Some v = at_rank p n v (omega arith) good in
      elim (cases_Bool (p n)) [
        | inl pass ↦ rw (places-pass p n pass) (slice_get-append_left (places p n) (n ∷ []) (count_below p v) v before)
        | inr fails ↦ rw (places-fail p n fails) before
      ])
]

-- what stands at a place passes, and the place is its rank
pub record Ranks (p : ℕ → Bool) (n k v : ℕ) : Type 0 where
  -- the number is below n
  pub below : v < n
  -- the number passes
  pub passes : p v ≡ true
  -- the place is how many smaller numbers pass
  pub rank : count_below p v ≡ k

-- what stands at a place of the list passes, and the place is its rank
pub rank_at : (p : ℕ → Bool) (n k v : ℕ) → slice_get (places p n) k ≡ Some v → Ranks p n k v
rank_at p zero k v e = let none : slice_get (places p 0) k ≡ None = rw (places-zero p) in absurd (none-some v (sym none ∙ e))
rank_at p (suc n) k v e = elim (cases_Bool (p n)) [
  | inl pass ↦ elim (slice_get_push (places p n) n k v (ap (λ (xs : List ℕ). slice_get xs k) (sym (places-pass p n pass)) ∙ e)) [
    | inl before ↦ (
        let r : Ranks p n k v = rank_at p n k v before in
        record { below = omega arith; passes = r.passes; rank = r.rank })
    | inr here ↦ record {
      below = omega arith;
      passes = ap p here.1 ∙ pass;
      rank = ap (λ (w : ℕ). count_below p w) here.1 ∙ sym (length-places p n) ∙ sym here.0;
    }
  ]
  | inr fails ↦ (
      let r : Ranks p n k v = rank_at p n k v (ap (λ (xs : List ℕ). slice_get xs k) (sym (places-fail p n fails)) ∙ e) in
      record { below = omega arith; passes = r.passes; rank = r.rank })
]

-- the places up to one are a front of the places
pub take-places : (p : ℕ → Bool) (n v : ℕ) → v ≤ n → take (count_below p v) (places p n) ≡ places p v
take-places p n v h = elim (cases_eq v n) [
  | inl same ↦ rw same (take_all (count_below p n) (places p n) (omega (arith, length-places p n)))
  | inr other ↦ before n v h other
]
  where
    before : (n v : ℕ) → v ≤ n → (v ≡ n → ⊥) → take (count_below p v) (places p n) ≡ places p v
    before zero v h other = absurd (other (omega arith))
    before (suc n) v h other =
        let shorter : count_below p v ≤ length (places p n) = omega (arith, length-places p n, count-le p v n (omega arith)) in
        let smaller : take (count_below p v) (places p n) ≡ places p v = elim (cases_eq v n) [
          | inl same ↦ rw same (take_all (count_below p n) (places p n) (omega (arith, length-places p n)))
          | inr more ↦ before n v (omega arith) more
        ] in
        elim (cases_Bool (p n)) [
          | inl pass ↦ rw (places-pass p n pass) (take-append-le (count_below p v) (places p n) (n ∷ []) shorter ∙ smaller)
          | inr fails ↦ rw (places-fail p n fails) smaller
        ]
