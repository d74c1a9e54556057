-- Literals by places against literals by positions.
use Rattle.std.proofs.Common.{ℕ, ◌+◌, ◌-◌, ◌*◌, ◌/◌, ◌%◌, ◌<◌, ◌≤◌, ◌≡◌, ◌≢◌, ◌⊎◌, List, ◌++◌, length, get_or, slice_index, AllPairs, Bool, true, false, cond, nat_eq, nat_lt, ◌==◌, ◌||◌, Option, Some, None, position, unwrap_or, refl, sym, ap, ap₂, ◌∙◌, inl, inr, arith}
use Rattle.std.specs.List.{position_or_len}
use Rattle.std.proofs.lemmas.Bool.{cases_lt, cases_Bool, lt-ltb, le-ltb, le-leb, lt-leb, cond-true, cond-false, eqb-true}
use Rattle.aig_graph.specs.Graph.{variable}
use Rattle.aig_graph.specs.Marking.{has}
use Rattle.ascii_file.specs.declared.parts.places.Places.{Places}
use Rattle.ascii_file.specs.parts.Places.{place_of}
use Rattle.ascii_file.specs.Meaning.{renumbered, literal_in}
use Rattle.ascii_file.specs.Reading.{is_known_among}
use Rattle.aag_text.specs.Numbering.{has_place, is_placed, placed}
use Rattle.aag_text.specs.Arranging.{gate_read, moved}
use Rattle.aag_text.proofs.PositionLaws.{has_by_position, position_none, none_at_end, found_at_end, stays_in_front, moves_to_rank, IsReordered}

-- ---- places as positions

has_place_position : (xs : List ℕ) (v count : ℕ) → count ≡ length xs → has_place count (position (λ w. w == v) xs) ≡ has xs v
has_place_position xs v count same = by_test (nat_lt (position_or_len (λ w. w == v) xs) (length xs)) refl ∙ has_by_position xs v
  where
    by_test : (test : Bool) → nat_lt (position_or_len (λ w. w == v) xs) (length xs) ≡ test → has_place count (cond test (Some (position_or_len (λ w. w == v) xs)) None) ≡ test
    by_test true is = ap (nat_lt (position_or_len (λ w. w == v) xs)) same ∙ is
    by_test false is = refl

module _ (places : Places) (variables : List ℕ) (are : (v : ℕ) → place_of places v ≡ position (λ w. w == v) variables) where
  -- a literal has a place if and only if its variable is among those defined
  pub known_same : (count : ℕ) → count ≡ length variables → (lit : ℕ) → is_placed places count lit ≡ is_known_among variables lit
  known_same count same lit = ap (λ (b : Bool). (variable lit == 0) || b) (ap (has_place count) (are (variable lit)) ∙ has_place_position variables (variable lit) count same)

  -- a literal by places is the literal by positions among the variables defined
  pub number_same : (lit : ℕ) → placed places lit ≡ literal_in variables lit
  number_same lit = ap (λ (o : Option ℕ). 2 * (cond (variable lit == 0) 0 (1 + unwrap_or o 0)) + lit % 2) (are (variable lit))

-- ---- a known literal

-- a literal of the constant stays as it is
pub constant_literal : (variables : List ℕ) (lit : ℕ) → variable lit ≡ 0 → literal_in variables lit ≡ lit % 2
constant_literal variables lit is =
    let none : renumbered variables (variable lit) ≡ 0 = cond-true _ _ _ (ap (λ (n : ℕ). nat_eq n 0) is) in
    omega (arith, none)

-- a literal of a variable defined at a position is that of one more than the position, its sign
-- kept
pub placed_literal : (variables : List ℕ) (lit p : ℕ) → nat_eq (variable lit) 0 ≡ false → position (λ w. w == variable lit) variables ≡ Some p → literal_in variables lit ≡ 2 * (1 + p) + lit % 2
placed_literal variables lit p other found =
    let number : renumbered variables (variable lit) ≡ 1 + p = cond-false _ _ _ other ∙ ap (λ (o : Option ℕ). 1 + unwrap_or o 0) found in
    ap (λ (n : ℕ). 2 * n + lit % 2) number

known_by : (variables : List ℕ) (lit : ℕ) → is_known_among variables lit ≡ true → (variable lit ≡ 0) ⊎ ((nat_eq (variable lit) 0 ≡ false) × ((p : ℕ) × (position (λ w. w == variable lit) variables ≡ Some p)))
known_by variables lit known = elim (cases_Bool (nat_eq (variable lit) 0)) [
  | inl is ↦ inl (eqb-true (variable lit) 0 is)
  | inr other ↦
      let member : has variables (variable lit) ≡ true = sym (ap (λ (b : Bool). b || has variables (variable lit)) other) ∙ known in
      inr (other, (position_or_len (λ w. w == variable lit) variables, cond-true _ _ _ (has_by_position variables (variable lit) ∙ member)))
]

-- ---- what a gate reads

sign_kept : (lit n : ℕ) → (2 * n + lit % 2) / 2 ≡ n
sign_kept lit n = omega arith

-- by a literal that is renumbered, and by one of the file
pub read_same : (front back : List ℕ) → AllPairs (λ v w. v ≢ w) (front ++ back) → ((j : ℕ) → j < length back → get_or back j 0 ≢ 0) → (first lit : ℕ) → first ≡ 1 + length front
    → is_known_among (front ++ back) lit ≡ true → gate_read first (literal_in (front ++ back) lit) ≡ position (λ w. w == variable lit) back
read_same front back apart no_constant first lit from known = elim (known_by (front ++ back) lit known) [
  | inl is ↦
      let it = constant_literal (front ++ back) lit is in
      let low : variable (literal_in (front ++ back) lit) < first = omega (arith, it, from) in
      cond-false _ _ _ (lt-leb first (variable (literal_in (front ++ back) lit)) low)
      ∙ sym (position_none back (variable lit) (λ j less same. no_constant j less (same ∙ is)))
  | inr other ↦
      let p = other.1.0 in
      let it = placed_literal (front ++ back) lit p other.0 other.1.1 in
      let at : variable (literal_in (front ++ back) lit) ≡ 1 + p = ap variable it ∙ sign_kept lit (1 + p) in
      elim (cases_lt p (length front)) [
        | inl less ↦
            let low : variable (literal_in (front ++ back) lit) < first = omega (arith, at, less, from) in
            cond-false _ _ _ (lt-leb first (variable (literal_in (front ++ back) lit)) low) ∙ sym (none_at_end front back apart (variable lit) p other.1.1 less)
        | inr more ↦
            let high : first ≤ variable (literal_in (front ++ back) lit) = omega (arith, at, more, from) in
            let place : variable (literal_in (front ++ back) lit) - first ≡ p - length front = omega (arith, at, more, from) in
            cond-true _ _ _ (le-leb first (variable (literal_in (front ++ back) lit)) high) ∙ ap (λ (n : ℕ). Some n) place ∙ sym (found_at_end front back apart (variable lit) p other.1.1 more)
      ]
]

-- ---- a literal in the order of the gates

-- a literal by positions, moved by the ranks, is the literal by positions once the gates stand in
-- order
pub moved_same : (front back again order ranks : List ℕ) → IsReordered front back again order ranks → (first lit : ℕ) → first ≡ 1 + length front
    → is_known_among (front ++ back) lit ≡ true → moved first ranks (literal_in (front ++ back) lit) ≡ literal_in (front ++ again) lit
moved_same front back again order ranks is first lit from known = elim (known_by (front ++ back) lit known) [
  | inl zero_is ↦
      let it = constant_literal (front ++ back) lit zero_is in
      let low : variable (literal_in (front ++ back) lit) < first = omega (arith, it, from) in
      cond-true _ _ _ (lt-ltb (variable (literal_in (front ++ back) lit)) first low) ∙ it ∙ sym (constant_literal (front ++ again) lit zero_is)
  | inr other ↦
      let p = other.1.0 in
      let it = placed_literal (front ++ back) lit p other.0 other.1.1 in
      let at : variable (literal_in (front ++ back) lit) ≡ 1 + p = ap variable it ∙ sign_kept lit (1 + p) in
      elim (cases_lt p (length front)) [
        | inl less ↦
            let low : variable (literal_in (front ++ back) lit) < first = omega (arith, at, less, from) in
            cond-true _ _ _ (lt-ltb (variable (literal_in (front ++ back) lit)) first low) ∙ it
            ∙ sym (placed_literal (front ++ again) lit p other.0 (stays_in_front front back again order ranks is (variable lit) p other.1.1 less))
        | inr more ↦
            let high : first ≤ variable (literal_in (front ++ back) lit) = omega (arith, at, more, from) in
            let place : variable (literal_in (front ++ back) lit) - first ≡ p - length front = omega (arith, at, more, from) in
            let sign : literal_in (front ++ back) lit % 2 ≡ lit % 2 = ap (λ (n : ℕ). n % 2) it ∙ omega arith in
            let base : first + slice_index ranks (p - length front) ≡ 1 + (length front + slice_index ranks (p - length front)) = omega (arith, from) in
            cond-false _ _ _ (le-ltb (variable (literal_in (front ++ back) lit)) first high)
            ∙ ap₂ (λ (n s : ℕ). 2 * (first + slice_index ranks n) + s) place sign ∙ ap (λ (n : ℕ). 2 * n + lit % 2) base
            ∙ sym (placed_literal (front ++ again) lit (length front + slice_index ranks (p - length front)) other.0 (moves_to_rank front back again order ranks is (variable lit) p other.1.1 more))
      ]
]
