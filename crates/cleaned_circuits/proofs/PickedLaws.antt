-- Where those of a list that pass stand.
use Rattle.std.proofs.Common.{ℕ, ◌+◌, ◌<◌, ◌≤◌, ◌≡◌, inl, inr, suc, zero, List, [], ◌∷◌, length, Bool, true, false, Some, slice_get, refl, arith, ap, sym, ◌∙◌}
use Rattle.std.proofs.lemmas.Bool.{cases_Bool, cond-true, cond-false}
use Rattle.std.proofs.lemmas.Option.{none-some}
use Rattle.aig_graph.specs.Counting.{count_below}
use Rattle.aig_graph.proofs.PlacesLaws.{count-pass, count-fail, count-le, count-zero}
use Rattle.cleaned_circuits.specs.Trimmed.{picked}

-- all pass
pub count-all : (p : ℕ → Bool) (n : ℕ) → ((v : ℕ) → v < n → p v ≡ true) → count_below p n ≡ n
count-all p zero all = count-zero p
count-all p (suc n) all = omega (arith, count-pass p n (all n (omega arith)), count-all p n (λ v h. all v (omega arith)))

module _ {A : Type 0} (p : ℕ → Bool) where
  picked-pass : (n : ℕ) (x : A) (xs : List A) → p n ≡ true → picked p n (x ∷ xs) ≡ x ∷ picked p (suc n) xs
  unfolding picked
  picked-pass n x xs e = cond-true (p n) (x ∷ picked p (suc n) xs) (picked p (suc n) xs) e

  picked-fail : (n : ℕ) (x : A) (xs : List A) → p n ≡ false → picked p n (x ∷ xs) ≡ picked p (suc n) xs
  unfolding picked
  picked-fail n x xs e = cond-false (p n) (x ∷ picked p (suc n) xs) (picked p (suc n) xs) e

  picked-none : (n : ℕ) → picked {A = A} p n [] ≡ []
  unfolding picked
  picked-none n = refl

  -- as many of a list are picked as numbers of it pass
  pub length-picked : (n : ℕ) (xs : List A) → count_below p n + length (picked p n xs) ≡ count_below p (n + length xs)
  length-picked n [] =
      let none : length (picked {A = A} p n []) ≡ 0 = ap length (picked-none n) in
      let place : n + 0 ≡ n = omega arith in
      omega (arith, none, ap (count_below p) place)
  length-picked n (x ∷ xs) =
      let place : n + suc (length xs) ≡ suc n + length xs = omega arith in
      let rest : count_below p (suc n) + length (picked p (suc n) xs) ≡ count_below p (suc n + length xs) = length-picked (suc n) xs in
      let end : count_below p (n + suc (length xs)) ≡ count_below p (suc n + length xs) = ap (count_below p) place in
      elim (cases_Bool (p n)) [
        | inl pass ↦ omega (arith, count-pass p n pass, ap length (picked-pass n x xs pass))
        | inr fails ↦ omega (arith, count-fail p n fails, ap length (picked-fail n x xs fails))
      ]

  -- what passes stands at the number of those before it that do
  pub picked-at : (n : ℕ) (xs : List A) (k m : ℕ) (x : A) → slice_get xs k ≡ Some x → p (n + k) ≡ true → count_below p n + m ≡ count_below p (n + k) → slice_get (picked p n xs) m ≡ Some x
  picked-at n [] k m x e pass rank = absurd (none-some x e)
  picked-at n (y ∷ ys) zero m x e pass rank =
      let place : n + 0 ≡ n = omega arith in
      let first : m ≡ 0 = omega (arith, ap (count_below p) place) in
      ap (λ (zs : List A). slice_get zs m) (picked-pass n y ys (ap p (sym place) ∙ pass)) ∙ ap (λ (i : ℕ). slice_get (y ∷ picked p (suc n) ys) i) first ∙ e
  picked-at n (y ∷ ys) (suc k) m x e pass rank =
      let place : n + suc k ≡ suc n + k = omega arith in
      let there : p (suc n + k) ≡ true = ap p (sym place) ∙ pass in
      let more : count_below p (suc n) ≤ count_below p (suc n + k) = count-le p (suc n) (suc n + k) (omega arith) in
      let at : count_below p (n + suc k) ≡ count_below p (suc n + k) = ap (count_below p) place in
      elim (cases_Bool (p n)) [
        | inl here ↦ ap (λ (zs : List A). slice_get zs m) (picked-pass n y ys here) ∙ next m there (omega (arith, count-pass p n here)) (omega (arith, count-pass p n here)) (picked-at (suc n) ys k)
        | inr fails ↦ ap (λ (zs : List A). slice_get zs m) (picked-fail n y ys fails) ∙ picked-at (suc n) ys k m x e there (omega (arith, count-fail p n fails))
      ]
    where
      next : (m : ℕ) → p (suc n + k) ≡ true → 0 < m → count_below p (suc n) + m ≡ count_below p (suc n + k) + 1
          → ((i : ℕ) (z : A) → slice_get ys k ≡ Some z → p (suc n + k) ≡ true → count_below p (suc n) + i ≡ count_below p (suc n + k) → slice_get (picked p (suc n) ys) i ≡ Some z)
          → slice_get (y ∷ picked p (suc n) ys) m ≡ Some x
      next zero there positive rank rest = absurd (omega arith)
      next (suc i) there positive rank rest = rest i x e there (omega arith)

  -- where what was picked stood
  pub record WasAt (n : ℕ) (xs : List A) (m : ℕ) (x : A) : Type 0 where
    -- the place in the list
    pub place : ℕ
    -- what was picked stands there
    pub there : slice_get xs place ≡ Some x
    -- the number there passes
    pub passes : p (n + place) ≡ true
    -- the place among the picked is how many numbers before it pass
    pub rank : count_below p n + m ≡ count_below p (n + place)

  later : (n : ℕ) (y : A) (ys : List A) (i m : ℕ) (x : A) → count_below p n + m ≡ count_below p (suc n) + i → WasAt (suc n) ys i x → WasAt n (y ∷ ys) m x
  later n y ys i m x same was =
      let place : suc n + was.place ≡ n + suc was.place = omega arith in
      record {
        place = suc was.place;
        there = was.there;
        passes = ap p (sym place) ∙ was.passes;
        rank = omega (arith, was.rank, ap (count_below p) place);
      }

  -- what stands at a place of the picked stood at a place of the list whose number passes
  pub was_at : (n : ℕ) (xs : List A) (m : ℕ) (x : A) → slice_get (picked p n xs) m ≡ Some x → WasAt n xs m x
  was_at n [] m x e = absurd (none-some x (ap (λ (zs : List A). slice_get zs m) (sym (picked-none n)) ∙ e))
  was_at n (y ∷ ys) m x e = elim (cases_Bool (p n)) [
    | inl here ↦ front m here (ap (λ (zs : List A). slice_get zs m) (sym (picked-pass n y ys here)) ∙ e) (was_at (suc n) ys)
    | inr fails ↦ later n y ys m m x (omega (arith, count-fail p n fails)) (was_at (suc n) ys m x (ap (λ (zs : List A). slice_get zs m) (sym (picked-fail n y ys fails)) ∙ e))
  ]
    where
      front : (m : ℕ) → p n ≡ true → slice_get (y ∷ picked p (suc n) ys) m ≡ Some x → ((i : ℕ) (z : A) → slice_get (picked p (suc n) ys) i ≡ Some z → WasAt (suc n) ys i z) → WasAt n (y ∷ ys) m x
      front zero here there rest =
          let place : n + 0 ≡ n = omega arith in
          record { place = 0; there = there; passes = ap p place ∙ here; rank = omega (arith, ap (count_below p) place) }
      front (suc i) here there rest = later n y ys i (suc i) x (omega (arith, count-pass p n here)) (rest i x there)
