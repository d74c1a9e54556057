-- Where the first mark stands.
use Rattle.std.proofs.Common.{ℕ, ◌+◌, ◌<◌, ◌≤◌, ◌≡◌, suc, zero, length, List, [], ◌∷◌, ◌++◌, take, drop, Some, None, refl, arith, Bool, true, false, not, ◌&&◌, ◌==◌, nat_eq, cond, ap, get_or, position, add-one}
use Rattle.std.proofs.lemmas.Bool.{eqb-true, ltb-false}
use Rattle.std.proofs.lemmas.List.Quantifiers.{position-Some}
use Rattle.std.proofs.lemmas.List.Sums.{fails_before_first}
use Rattle.std.specs.List.{list_all, position_or_len}
use Rattle.file_words.specs.Cuts.{lacks, Cuts}

-- the part before a mark
module _ (test : ℕ → Bool) where
  none_before : (xs : List ℕ) (i : ℕ) → i ≤ length xs → ((k : ℕ) → k < i → test (get_or xs k 0) ≡ false) → list_all (λ x. not (test x)) (take i xs) ≡ true
  none_before xs zero within before = refl
  none_before [] (suc i) within before = refl
  none_before (x ∷ xs) (suc i) within before = both (test x) (before zero (omega arith)) (none_before xs i (omega arith) (λ k less. before (suc k) (omega arith)))
    where
      both : (b : Bool) → b ≡ false → list_all (λ x. not (test x)) (take i xs) ≡ true → (not b && list_all (λ x. not (test x)) (take i xs)) ≡ true
      both true e later = absurd (cc)
      both false e later = later

  none_at_all : (xs : List ℕ) → ((k : ℕ) → k < length xs → test (get_or xs k 0) ≡ false) → list_all (λ x. not (test x)) xs ≡ true
  none_at_all [] none = refl
  none_at_all (x ∷ xs) none = both (test x) (none zero (omega arith)) (none_at_all xs (λ k less. none (suc k) (omega arith)))
    where
      both : (b : Bool) → b ≡ false → list_all (λ x. not (test x)) xs ≡ true → (not b && list_all (λ x. not (test x)) xs) ≡ true
      both true e later = absurd (cc)
      both false e later = later

parted_at : (xs : List ℕ) (i : ℕ) (b : ℕ) → i < length xs → get_or xs i 0 ≡ b → xs ≡ take i xs ++ b ∷ drop (suc i) xs
parted_at [] i b within here = absurd (omega arith)
parted_at (x ∷ xs) zero b within here = ap (λ (y : ℕ). y ∷ xs) here
parted_at (x ∷ xs) (suc i) b within here = ap (λ (ys : List ℕ). x ∷ ys) (parted_at xs i b (omega arith) here)

-- if the first mark is found at a place, it cuts the bytes into those before and those after it
pub cuts_at : (mark : ℕ) (bytes : List ℕ) (i : ℕ) → position (λ b. b == mark) bytes ≡ Some i → (i < length bytes) × Cuts mark bytes (take i bytes) (drop (i + 1) bytes)
cuts_at mark bytes i e =
    let found = position-Some (λ b. nat_eq b mark) bytes i 0 e in (
      found.0,
      record {
        clean = none_before (λ b. nat_eq b mark) bytes i (omega (arith, found.0)) found.2;
        whole = rw add-one (parted_at bytes i mark found.0 (eqb-true (get_or bytes i 0) mark found.1));
      },
    )

-- if no mark is found, the bytes lack it
pub no_mark : (mark : ℕ) (bytes : List ℕ) → position (λ b. b == mark) bytes ≡ None → lacks mark bytes ≡ true
no_mark mark bytes e =
    let past : length bytes ≤ position_or_len (λ x. nat_eq x mark) bytes = ltb-false _ _ (by_test _ _ e) in
    none_at_all (λ b. nat_eq b mark) bytes (λ k less. fails_before_first (λ x. nat_eq x mark) bytes k 0 (omega arith))
  where
    by_test : (i : ℕ) (t : Bool) → cond t (Some i) None ≡ None → t ≡ false
    by_test i true e = absurd (cc)
    by_test i false e = refl
