-- Marks of the nodes of a range.
use Rattle.std.proofs.Common.{◌≡◌, ℕ, ◌+◌, ◌<◌, ◌≤◌, nat_le, Bool, true, false, List, length, get_or, slice_set, arith, sym, ap, ◌∙◌, inl, inr, ◌≢◌, get_or-set_other, get_or-set_same}
use Rattle.std.proofs.Math.Bool.{and-false, or-false, or-true}
use Rattle.std.proofs.lemmas.Bool.{cases_lt, cases_eq, lt-ltb, le-leb, le-ltb, lt-leb}
use Rattle.pulse_parts.specs.Marks.{and_range}

-- a node of the range is marked
pub range_in : (marks : ℕ → Bool) (first end v : ℕ) → first ≤ v → v < end → and_range marks first end v ≡ true
range_in marks first end v lo hi = rw (le-leb first v lo, lt-ltb v end hi) (or-true (marks v))

-- a node past the range has the mark that it had
pub range_out : (marks : ℕ → Bool) (first end v : ℕ) → end ≤ v → and_range marks first end v ≡ marks v
range_out marks first end v hi = rw (le-ltb v end hi, and-false (nat_le first v)) (or-false (marks v))

-- a node before the range has the mark that it had
pub range_below : (marks : ℕ → Bool) (first end v : ℕ) → v < first → and_range marks first end v ≡ marks v
range_below marks first end v lo = rw (lt-leb first v lo) (or-false (marks v))

-- an empty range marks nothing
pub range_none : (marks : ℕ → Bool) (first v : ℕ) → and_range marks first first v ≡ marks v
range_none marks first v = elim (cases_lt v first) [ inl lt ↦ range_below marks first first v lt | inr ge ↦ range_out marks first first v ge ]

-- one more node is marked
pub mark_more : (olds curs : List Bool) (first u : ℕ) → first ≤ u → u < length curs → ((v : ℕ) → v < length olds → get_or curs v false ≡ and_range (λ w. get_or olds w false) first u v)
    → (v : ℕ) → v < length olds → get_or (slice_set curs u true) v false ≡ and_range (λ w. get_or olds w false) first (u + 1) v
mark_more olds curs first u lo hi before v l = elim (cases_eq v u) [
  | inl same ↦ ap (λ (x : ℕ). get_or (slice_set curs u true) x false) same ∙ (get_or-set_same curs u true false hi
      ∙ sym (range_in (λ w. get_or olds w false) first (u + 1) v (omega (arith, same)) (omega (arith, same))))
  | inr other ↦
      let ne : v ≢ u = other in
      rw get_or-set_other (before v l ∙ elim (cases_lt v u) [
        | inl lt ↦ elim (cases_lt v first) [
          | inl below ↦ range_below (λ w. get_or olds w false) first u v below ∙ sym (range_below (λ w. get_or olds w false) first (u + 1) v below)
          | inr from ↦ range_in (λ w. get_or olds w false) first u v from lt ∙ sym (range_in (λ w. get_or olds w false) first (u + 1) v from (omega arith))
        ]
        | inr ge ↦ range_out (λ w. get_or olds w false) first u v ge ∙ sym (range_out (λ w. get_or olds w false) first (u + 1) v (omega (arith, other)))
      ])
]
