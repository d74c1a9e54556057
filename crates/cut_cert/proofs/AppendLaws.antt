-- A list that holds the values of a function, with one more of them.
use Rattle.std.proofs.Common.{◌≡◌, ℕ, ◌+◌, ◌<◌, ◌-◌, List, [], ◌∷◌, ◌++◌, length, slice_index, arith, refl, sym, ap, ◌∙◌, inl, inr}
use Rattle.std.proofs.lemmas.Bool.{cases_lt}
use Rattle.std.proofs.lemmas.List.{get_or-append_right, length-append}
use Rattle.std.proofs.Math.ListN.{get_or-append}

-- a list of a function's values, with the next value at its end, is one of them
pub one_more : (f : ℕ → ℕ) (xs ys : List ℕ) (x i : ℕ) → ys ≡ xs ++ x ∷ [] → length xs ≡ i → ((j : ℕ) → j < length xs → slice_index xs j ≡ f j) → x ≡ f i
    → (j : ℕ) → j < length ys → slice_index ys j ≡ f j
one_more f xs ys x i e len below here j h =
    let longer : length ys ≡ length xs + 1 = omega (arith, ap length e, length-append xs (x ∷ [])) in
    ap (λ (zs : List ℕ). slice_index zs j) e ∙ elim (cases_lt j (length xs)) [
      | inl lt ↦ get_or-append xs (x ∷ []) 0 j lt ∙ below j lt
      | inr ge ↦
          let last : j ≡ i = omega arith in
          let first : j - length xs ≡ 0 = omega arith in
          get_or-append_right xs (x ∷ []) (length xs) j 0 refl ge ∙ (ap (λ (n : ℕ). slice_index (x ∷ []) n) first ∙ (here ∙ ap f (sym last)))
    ]
