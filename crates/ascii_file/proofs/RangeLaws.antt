-- Variables that are numbered from 1 on keep their numbers.
use Rattle.std.proofs.Common.{ℕ, suc, zero, ◌+◌, ◌-◌, ◌<◌, ◌≤◌, ◌≡◌, inl, inr, List, [], ◌∷◌, ◌++◌, length, map, get_or, slice_get, position, unwrap_or, Contains, Option, Some, None, true, cond, nat_lt, nat_eq, refl, sym, ap, ap₂, subst, ◌∙◌, arith}
use Rattle.std.specs.List.{range_with_len, enumerate_from, position_or_len, AllByRecursion}
use Rattle.std.proofs.lemmas.Option.{same_Some}
use Rattle.std.proofs.lemmas.Bool.{cases_eq, lt-ltb, eq-eqb, ne_eqb, cond-true, cond-false}
use Rattle.std.proofs.lemmas.List.FromFn.{length-range_with_len, get_or-range_with_len}
use Rattle.aig_graph.specs.Graph.{variable}
use Rattle.ascii_file.specs.Files.{IsKnownAmong}
use Rattle.ascii_file.specs.Meaning.{renumbered, literal_in}
use Rattle.ascii_file.proofs.DistinctItemLaws.{AreApart}

-- numbers, and those that come next
pub range-append : (m a n : ℕ) → range_with_len a m ++ range_with_len (a + m) n ≡ range_with_len a (m + n)
range-append zero a n = let none : a + 0 ≡ a = omega arith in let all : 0 + n ≡ n = omega arith in rw (none, all) refl
range-append (suc m) a n =
    let start : a + suc m ≡ a + 1 + m = omega arith in
    let all : suc m + n ≡ suc (m + n) = omega arith in
    rw (start, all) (ap (λ (vs : List ℕ). a ∷ vs) (range-append m (a + 1) n))

-- no number stands twice
pub range-apart : (a n : ℕ) → AreApart (range_with_len a n)
range-apart a n i j d less within same =
    let short : j < n = omega (arith, length-range_with_len a n) in
    let first : get_or (range_with_len a n) i d ≡ a + i = get_or-range_with_len a n i d (omega arith) in
    let second : get_or (range_with_len a n) j d ≡ a + j = get_or-range_with_len a n j d short in
    omega (arith, first, second, same)

-- each number stands there
pub range-contains : (a n v : ℕ) → a ≤ v → v < a + n → Contains (range_with_len a n) v
range-contains a n v low high =
    let at : get_or (range_with_len a n) (v - a) v ≡ a + (v - a) = get_or-range_with_len a n (v - a) v (omega arith) in
    (v - a, omega (arith, length-range_with_len a n), omega (arith, at))

-- a literal of one of the variables below 1 + n
pub range-knows : (n lit : ℕ) → variable lit < 1 + n → IsKnownAmong (range_with_len 1 n) lit
range-knows n lit within = elim (cases_eq (variable lit) 0) [
  | inl constant ↦ inl constant
  | inr other ↦ inr (range-contains 1 n (variable lit) (omega (arith, other)) within)
]

-- the place of a number
range-place : (n a v : ℕ) → a ≤ v → v < a + n → position_or_len (λ w. nat_eq w v) (range_with_len a n) ≡ v - a
range-place zero a v low high = absurd (omega arith)
range-place (suc n) a v low high = elim (cases_eq a v) [
  | inl same ↦ (let here : v - a ≡ 0 = omega arith in rw (eq-eqb a v same, here) refl)
  | inr other ↦ (
      let later : position_or_len (λ w. nat_eq w v) (range_with_len (a + 1) n) ≡ v - (a + 1) = range-place n (a + 1) v (omega (arith, other)) (omega arith) in
      let next : 1 + (v - (a + 1)) ≡ v - a = omega (arith, other) in
      rw (ne_eqb a v other, later, next) refl)
]

-- a variable has the place before its number
pub range-position : (n v : ℕ) → 1 ≤ v → v < 1 + n → position (λ w. nat_eq w v) (range_with_len 1 n) ≡ Some (v - 1)
range-position n v low high =
    let place : position_or_len (λ w. nat_eq w v) (range_with_len 1 n) ≡ v - 1 = range-place n 1 v low high in
    let within : nat_lt (v - 1) (length (range_with_len 1 n)) ≡ true = lt-ltb (v - 1) (length (range_with_len 1 n)) (omega (arith, length-range_with_len 1 n)) in
    ap (λ (k : ℕ). cond (nat_lt k (length (range_with_len 1 n))) (Some k) None) place ∙ cond-true (nat_lt (v - 1) (length (range_with_len 1 n))) (Some (v - 1)) None within

-- variables keep their numbers
pub range-renumbered : (n v : ℕ) → v < 1 + n → renumbered (range_with_len 1 n) v ≡ v
range-renumbered n v within = elim (cases_eq v 0) [
  | inl constant ↦ cond-true (nat_eq v 0) 0 (1 + unwrap_or (position (λ w. nat_eq w v) (range_with_len 1 n)) 0) (eq-eqb v 0 constant) ∙ sym constant
  | inr other ↦ (
      let back : 1 + (v - 1) ≡ v = omega (arith, other) in
      cond-false (nat_eq v 0) 0 (1 + unwrap_or (position (λ w. nat_eq w v) (range_with_len 1 n)) 0) (ne_eqb v 0 other)
      ∙ ap (λ (o : Option ℕ). 1 + unwrap_or o 0) (range-position n v (omega (arith, other)) within) ∙ back)
]

-- literals stay
pub range-literal : (n lit : ℕ) → variable lit < 1 + n → literal_in (range_with_len 1 n) lit ≡ lit
range-literal n lit within = let same : renumbered (range_with_len 1 n) (variable lit) ≡ variable lit = range-renumbered n (variable lit) within in omega (arith, same)

-- the numbers of things that are numbered from a number on
pub names-enumerated : {X Y : Type 0} (name : Y → ℕ) (item : ℕ × X → Y) → ((e : ℕ × X) → name (item e) ≡ e.0) → (first : ℕ) (xs : List X)
    → map name (map item (enumerate_from first xs)) ≡ range_with_len first (length xs)
names-enumerated name item named first [] = refl
names-enumerated name item named first (x ∷ xs) = ap₂ (λ (v : ℕ) (vs : List ℕ). v ∷ vs) (named (first, x)) (names-enumerated name item named (first + 1) xs)

-- ---- what holds of all numbered things

-- what holds of each thing at its number holds of all
pub all_enumerated : {X Y : Type 0} (P : Y → Type 0) (item : ℕ × X → Y) (xs : List X) (first : ℕ) → ((k : ℕ) (x : X) → slice_get xs k ≡ Some x → P (item (first + k, x)))
    → AllByRecursion P (map item (enumerate_from first xs))
all_enumerated P item [] first every = tt
all_enumerated P item (x ∷ xs) first every =
    let here : first + 0 ≡ first = omega arith in (
      subst (λ (n : ℕ). P (item (n, x))) here (every 0 x refl),
      all_enumerated P item xs (first + 1) (λ k y there.
          let next : first + suc k ≡ first + 1 + k = omega arith in
          subst (λ (n : ℕ). P (item (n, y))) next (every (suc k) y there)),
    )

-- what holds of each numbered thing in a range holds of all of them
pub all_range : {Y : Type 0} (P : Y → Type 0) (item : ℕ → Y) (n a : ℕ) → ((v : ℕ) → a ≤ v → v < a + n → P (item v)) → AllByRecursion P (map item (range_with_len a n))
all_range P item zero a every = tt
all_range P item (suc n) a every = (every a (omega arith) (omega arith), all_range P item n (a + 1) (λ v low high. every v (omega arith) (omega arith)))

-- the numbered thing at a place
pub enumerated_at : {X Y : Type 0} (item : ℕ × X → Y) (xs : List X) (first k : ℕ) (y : Y) → slice_get (map item (enumerate_from first xs)) k ≡ Some y → (x : X) × (slice_get xs k ≡ Some x) × (item (first + k, x) ≡ y)
enumerated_at item [] first k y there = absurd cc
enumerated_at item (x ∷ xs) first zero y there =
    let here : first + 0 ≡ first = omega arith in
    (x, refl, ap (λ (n : ℕ). item (n, x)) here ∙ same_Some (item (first, x)) y there)
enumerated_at item (x ∷ xs) first (suc k) y there =
    let later = enumerated_at item xs (first + 1) k y there in
    let next : first + suc k ≡ first + 1 + k = omega arith in
    (later.0, later.1, ap (λ (n : ℕ). item (n, later.0)) next ∙ later.2)
