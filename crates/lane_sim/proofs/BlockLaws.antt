-- Laws of the list of blocks.
use Rattle.std.proofs.Common.{ℕ, ◌++◌, ◌∷◌, [], zero, suc, nat_lt, true, false, refl, ◌+◌, ◌*◌, ◌/◌, ◌%◌, ◌<◌, ◌≤◌, ◌≡◌, min, arith, sym, ap, ◌∙◌, subst, get_or, slice_get, Option, Some, None, Result, Ok, Err, List, length, map}
use Rattle.std.specs.Option.{option_map, MatchOption, IsSomeAnd}
use Rattle.std.specs.Result.{MatchResult, IfOk}
use Rattle.std.specs.List.{AllZip, range_with_len}
use Rattle.std.proofs.lemmas.Bool.{ltb-true, ltb-false}
use Rattle.std.proofs.lemmas.Option.{slice_get-get_or, slice_get-map}
use Rattle.std.proofs.lemmas.List.FromFn.{length-range_with_len, get_or-range_with_len}
use Rattle.std.proofs.lemmas.Slice.Zip.{AllZip-left, AllZip-long}
use Rattle.std.proofs.lemmas.List.{length-map}

module _ {B : Type 0} (E : Type 0) (P : ℕ → B → Type 0) where
  answered : (i : ℕ) (o : Option B) → IsSomeAnd (option_map Ok o) (λ (r : Result B E). IfOk r (P i)) → IsSomeAnd o (P i)
  answered i None h = h
  answered i (Some b) h = h

  at_place : (n : ℕ) (bs : List B) → AllZip (λ i (r : Result B E). IfOk r (P i)) (range_with_len 0 n) (map Ok bs)
      → (i : ℕ) → i < n → IsSomeAnd (slice_get bs i) (P i)
  at_place n bs each i within =
      let long : length (range_with_len 0 n) ≡ n = length-range_with_len 0 n in
      let number : get_or (range_with_len 0 n) i 0 ≡ i = get_or-range_with_len 0 n i 0 within ∙ omega arith in
      let here : slice_get (range_with_len 0 n) i ≡ Some i = slice_get-get_or (range_with_len 0 n) i 0 (omega arith) ∙ ap Some number in
      let answers : List (Result B E) = map Ok bs in
      let met : IsSomeAnd (slice_get answers i) (λ (r : Result B E). IfOk r (P i)) =
      subst (λ o. MatchOption o (Unit {0}) (λ x. IsSomeAnd (slice_get answers i) (λ (r : Result B E). IfOk r (P x)))) here (AllZip-left (λ i (r : Result B E). IfOk r (P i)) (range_with_len 0 n) answers each i) in
      answered i (slice_get bs i) (subst (λ o. IsSomeAnd o (λ (r : Result B E). IfOk r (P i))) (slice_get-map Ok bs i) met)

  -- each number's result, from the list of answers in order
  pub collected : {V : Type 0} (items : V → List B) (n : ℕ) (ns : List ℕ) (rs : List (Result B E)) (r : Result V E)
      → ns ≡ range_with_len 0 n → AllZip (λ i (r : Result B E). IfOk r (P i)) ns rs
      → (Q : E → Type 0) → MatchResult r (λ v. (bs : List B) × (rs ≡ map Ok bs) × (items v ≡ bs)) Q
      → (R : ℕ → Type 0) → ((i : ℕ) → R i → i < n) → IfOk r (λ v. (i : ℕ) → R i → IsSomeAnd (slice_get (items v) i) (P i))
  collected items n ns rs (Err e) numbers each Q h R inside = tt
  collected items n ns rs (Ok v) numbers each Q h R inside = λ i met.
      subst (λ bs. IsSomeAnd (slice_get bs i) (P i)) (sym h.2)
      (at_place n h.0 (subst (λ zs. AllZip (λ i (r : Result B E). IfOk r (P i)) zs (map Ok h.0)) numbers (subst (λ zs. AllZip (λ i (r : Result B E). IfOk r (P i)) ns zs) h.1 each)) i (inside i met))

  -- as many as there are numbers
  pub collected_length : {V : Type 0} (items : V → List B) (n : ℕ) (ns : List ℕ) (rs : List (Result B E)) (r : Result V E)
      → ns ≡ range_with_len 0 n → AllZip (λ i (x : Result B E). IfOk x (P i)) ns rs
      → (Q : E → Type 0) → MatchResult r (λ v. (bs : List B) × (rs ≡ map Ok bs) × (items v ≡ bs)) Q → IfOk r (λ v. length (items v) ≡ n)
  collected_length items n ns rs (Err e) numbers each Q h = tt
  collected_length items n ns rs (Ok v) numbers each Q h =
      ap length h.2 ∙ sym (length-map h.0 Ok) ∙ ap length (sym h.1) ∙ AllZip-long (λ i (x : Result B E). IfOk x (P i)) ns rs each ∙ ap length numbers ∙ length-range_with_len 0 n

-- the numbers of the blocks
pub in_blocks : (n b : ℕ) → 256 * b < n → b < n / 256 + min 1 (n % 256)
in_blocks n b h = omega arith

-- a block below the number of blocks begins at the sequences' end at the latest
pub of_blocks : (n b : ℕ) → b < n / 256 + min 1 (n % 256) → 256 * b ≤ n
of_blocks n b h = omega arith

slice_get-front : {X : Type 0} (xs ys : List X) (t : ℕ) → t < length xs → slice_get (xs ++ ys) t ≡ slice_get xs t
slice_get-front [] ys t h = absurd (omega arith)
slice_get-front (x ∷ xs) ys zero h = refl
slice_get-front (x ∷ xs) ys (suc t) h = slice_get-front xs ys t (omega arith)

slice_get-last : {X : Type 0} (xs : List X) (x : X) → slice_get (xs ++ x ∷ []) (length xs) ≡ Some x
slice_get-last [] x = refl
slice_get-last (y ∷ xs) x = slice_get-last xs x

-- what holds of the elements at the places below n, and of one more at the end
pub pushed : {X : Type 0} (P : ℕ → Option X → Type 0) (xs : List X) (x : X) (n : ℕ) → length xs ≡ n
    → ((t : ℕ) → t < n → P t (slice_get xs t)) → P n (Some x) → (t : ℕ) → t < n + 1 → P t (slice_get (xs ++ x ∷ []) t)
pushed P xs x n long before last t h =
    elim (nat_lt t n) as (λ b. nat_lt t n ≡ b → P t (slice_get (xs ++ x ∷ []) t)) [
      | true ↦ λ e.
          let within : t < n = ltb-true t n e in
          subst (P t) (sym (slice_get-front xs (x ∷ []) t (omega arith))) (before t within)
      | false ↦ λ e.
          let end : n ≡ t = omega (arith, ltb-false t n e) in
          subst (λ w. P w (slice_get (xs ++ x ∷ []) w)) end
          (subst (P n) (sym (ap (slice_get (xs ++ x ∷ [])) (sym long) ∙ slice_get-last xs x)) last)
    ] refl

-- a block below the number of blocks begins at a sequence
pub inside_blocks : (n b : ℕ) → b < n / 256 + min 1 (n % 256) → 256 * b < n
inside_blocks n b h = omega arith
