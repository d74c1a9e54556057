-- What a binary search in a rising list returns.
use Rattle.std.proofs.Common.{ℕ, ◌<◌, ◌≤◌, ◌≡◌, inl, inr, List, length, get_or, Result, Ok, Err, refl, arith, IsTrue, sym, ◌∙◌, true, false, Bool, [], ◌∷◌, suc, zero, nat_eq, ◌||◌}
use Rattle.aig_graph.specs.Marking.{has}
use Rattle.std.specs.List.{Contains}
use Rattle.std.specs.List.Sorted.{IsStrictlyIncreasing, IsBinarySearchResult}
use Rattle.std.specs.Ordering.{nat_cmp}
use Rattle.std.specs.Result.{is_ok}
use Rattle.std.specs.Prelude.{◌↔◌}
use Rattle.std.proofs.lemmas.Bool.{cases_lt, cases_eq, eq-eqb, ne_eqb}
use Rattle.std.proofs.lemmas.List.{get_or_default}
use Rattle.std.proofs.lemmas.List.Kept.{AllPairs-from_increasing}
use Rattle.std.proofs.lemmas.List.Sorted.{searched}

rising-le : (xs : List ℕ) → IsStrictlyIncreasing xs → (i j : ℕ) → i ≤ j → j < length xs → get_or xs i 0 ≤ get_or xs j 0
rising-le xs rising i j le within = elim (cases_lt i j) [
  | inl lt ↦ (let below : get_or xs i 0 < get_or xs j 0 = AllPairs-from_increasing xs rising i j 0 lt within in omega arith)
  | inr ge ↦ (let same : i ≡ j = omega arith in rw same (omega arith))
]

-- a binary search in a strictly rising list finds a number if and only if the list has it
pub found_where_contained : (xs : List ℕ) (x : ℕ) (r : Result ℕ ℕ) → IsStrictlyIncreasing xs → IsBinarySearchResult (λ y. nat_cmp y x) xs r → IsTrue (is_ok r) ↔ Contains xs x
found_where_contained xs x (Ok i) rising h =
    let found = searched xs x (Ok i) h (rising-le xs rising) in
    (λ _. (i, found.0, get_or_default xs i x 0 found.0 ∙ found.1), λ _. refl)
found_where_contained xs x (Err i) rising h =
    let found = searched xs x (Err i) h (rising-le xs rising) in (
      λ no. absurd (cc),
      λ member.
          let here : get_or xs member.0 0 ≡ x = get_or_default xs member.0 0 x member.1 ∙ member.2 in
          elim (cases_lt member.0 i) [
            | inl before ↦ (let less : get_or xs member.0 0 < x = found.1 member.0 before in absurd (omega arith))
            | inr after ↦ (let more : x < get_or xs member.0 0 = found.2 member.0 after member.1 in absurd (omega arith))
          ],
    )

-- tests that hold alike are equal
pub bool_same : (a b : Bool) → IsTrue a ↔ IsTrue b → a ≡ b
bool_same true true h = refl
bool_same false false h = refl
bool_same true false h = sym (h.0 refl)
bool_same false true h = h.1 refl

-- a list has a number by the test if and only if it contains it
pub has_iff_contains : (s : List ℕ) (v : ℕ) → IsTrue (has s v) ↔ Contains s v
has_iff_contains [] v = ((λ e. absurd (cc)), (λ member. absurd (omega arith)))
has_iff_contains (x ∷ xs) v =
    let rest = has_iff_contains xs v in (
      (λ e. elim (cases_eq x v) [
        | inl same ↦ (0, omega arith, same)
        | inr other ↦ (let inner = rest.0 (or_right (nat_eq x v) (has xs v) (ne_eqb x v other) e) in (suc inner.0, omega arith, inner.2))
      ]),
      (λ member. elim (cases_eq x v) [
        | inl same ↦ or_left (nat_eq x v) (has xs v) (eq-eqb x v same)
        | inr other ↦ or_more (nat_eq x v) (has xs v) (rest.1 (later x xs v other member))
      ]),
    )
  where
    or_right : (a b : Bool) → a ≡ false → IsTrue (a || b) → IsTrue b
    or_right true b e h = absurd (cc)
    or_right false b e h = h

    or_left : (a b : Bool) → a ≡ true → IsTrue (a || b)
    or_left true b e = refl
    or_left false b e = absurd (cc)

    or_more : (a b : Bool) → IsTrue b → IsTrue (a || b)
    or_more true b h = refl
    or_more false b h = h

    later : (x : ℕ) (xs : List ℕ) (v : ℕ) → (x ≡ v → ⊥) → Contains (x ∷ xs) v → Contains xs v
    later x xs v other (zero, h, e) = absurd (other e)
    later x xs v other (suc k, h, e) = (k, omega arith, e)
