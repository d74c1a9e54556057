-- What the checks of an item say.
use Rattle.std.proofs.Common.{ℕ, ◌+◌, ◌*◌, ◌%◌, ◌^◌, ◌<◌, ◌≤◌, ◌≡◌, inl, inr, List, [], ◌∷◌, Result, Ok, Err, Bool, true, false, not, nat_lt, nat_eq, ◌||◌, refl, ◌∙◌, arith}
use Rattle.std.specs.List.{AllByRecursion, list_any, sum}
use Rattle.std.proofs.lemmas.Bool.{ltb-false, le-ltb, leb-false, lt-leb, eqb-true, eqb-false, eq-eqb, ne_eqb, cond-false, or_parts, or_from, or_cases, or_left, or_right, not-false, not_from_true}
use Rattle.aig_graph.specs.Marking.{has}
use Rattle.aig_graph.specs.Graph.{variable}
use Rattle.file_words.specs.declared.fault.ReadError.{ReadError}
use Rattle.ascii_file.specs.declared.header.Header.{Header}
use Rattle.ascii_file.specs.declared.raw.RawLatch.{RawLatch}
use Rattle.ascii_file.specs.Raw.{Raw, defined, count_of}
use Rattle.ascii_file.specs.Items.{Item, InputItem, LatchItem, SafetyItem, SizeItem, LivenessItem, GateItem, SymbolItem}
use Rattle.ascii_file.specs.Reading.{unless, past_greatest, is_undefinable, is_bad_reset, is_of_same, checks}
use Rattle.ascii_file.specs.Files.{IsDefinable, HasReset}

-- no check of these fails
abbrev pub Passes : List (Bool × ReadError) → Type 0
Passes [] = Unit {0}
Passes ((fails, fault) ∷ more) = (fails ≡ false) × Passes more

-- if checks leave a value, none of them fails, and the value is what they leave
pub unless_ok : {A : Type 0} (list : List (Bool × ReadError)) (value : Result A ReadError) (y : A) → unless list value ≡ Ok y → Passes list × (value ≡ Ok y)
unless_ok [] value y e = (tt, e)
unless_ok ((true, fault) ∷ more) value y e = absurd cc
unless_ok ((false, fault) ∷ more) value y e = let rest = unless_ok more value y e in ((refl, rest.0), rest.1)

-- checks of which none fails leave the value as it is
pub unless_passes : {A : Type 0} (list : List (Bool × ReadError)) (value : Result A ReadError) → Passes list → unless list value ≡ value
unless_passes [] value passes = refl
unless_passes ((fails, fault) ∷ more) value passes = cond-false fails (Err fault) (unless more value) passes.0 ∙ unless_passes more value passes.1

-- answers that are equal have equal values
pub same_ok : {A : Type 0} (x y : A) → ◌≡◌ {A = Result A ReadError} (Ok x) (Ok y) → x ≡ y
same_ok x y e = cc

-- no literal is past the greatest variable
abbrev pub AreWithin : Header → List ℕ → Type 0
AreWithin h lits = AllByRecursion (λ lit. lit ≤ 2 * h.greatest + 1) lits

within_where_not_past : (h : Header) (lits : List ℕ) → past_greatest h lits ≡ false → AreWithin h lits
within_where_not_past h [] passes = tt
within_where_not_past h (lit ∷ lits) passes =
    let parts = or_parts (nat_lt (2 * h.greatest + 1) lit) (past_greatest h lits) passes in
    (ltb-false (2 * h.greatest + 1) lit parts.0, within_where_not_past h lits parts.1)

not_past_where_within : (h : Header) (lits : List ℕ) → AreWithin h lits → past_greatest h lits ≡ false
not_past_where_within h [] within = refl
not_past_where_within h (lit ∷ lits) within =
    or_from (nat_lt (2 * h.greatest + 1) lit) (past_greatest h lits) (le-ltb (2 * h.greatest + 1) lit within.0) (not_past_where_within h lits within.1)

-- the test of a literal that is defined
definable_where_it_passes : (lit : ℕ) → is_undefinable lit ≡ false → IsDefinable lit
definable_where_it_passes lit passes =
    let parts = or_parts (not (nat_eq (lit % 2) 0)) (nat_eq lit 0) passes in
    let even : lit % 2 ≡ 0 = eqb-true (lit % 2) 0 (not-false (nat_eq (lit % 2) 0) parts.0) in
    let not_zero : lit ≡ 0 → ⊥ = eqb-false lit 0 parts.1 in
    (even, omega arith)

passes_where_definable : (lit : ℕ) → IsDefinable lit → is_undefinable lit ≡ false
passes_where_definable lit definable =
    or_from (not (nat_eq (lit % 2) 0)) (nat_eq lit 0) (not_from_true (nat_eq (lit % 2) 0) (eq-eqb (lit % 2) 0 definable.0)) (ne_eqb lit 0 (λ e. absurd (omega (arith, definable.1))))

-- the test of a reset
pub reset_where_it_passes : (latch : RawLatch) → is_bad_reset latch ≡ false → HasReset latch
reset_where_it_passes latch passes =
    elim (or_cases (nat_eq latch.reset 0 || nat_eq latch.reset 1) (nat_eq latch.reset latch.current) (not-false (nat_eq latch.reset 0 || nat_eq latch.reset 1 || nat_eq latch.reset latch.current) passes)) [
      | inl constant ↦ (elim (or_cases (nat_eq latch.reset 0) (nat_eq latch.reset 1) constant) [
        | inl zero ↦ inl (eqb-true latch.reset 0 zero)
        | inr one ↦ inr (inl (eqb-true latch.reset 1 one))
      ])
      | inr own ↦ inr (inr (eqb-true latch.reset latch.current own))
    ]

-- a latch whose reset is 0, 1 or its own literal passes the test of its reset
pub passes_where_reset : (latch : RawLatch) → HasReset latch → is_bad_reset latch ≡ false
passes_where_reset latch has = not_from_true (nat_eq latch.reset 0 || nat_eq latch.reset 1 || nat_eq latch.reset latch.current) (by_case has)
  where
    by_case : HasReset latch → (nat_eq latch.reset 0 || nat_eq latch.reset 1 || nat_eq latch.reset latch.current) ≡ true
    by_case (inl zero) = or_left _ _ (or_left _ _ (eq-eqb latch.reset 0 zero))
    by_case (inr (inl one)) = or_left _ _ (or_right (nat_eq latch.reset 0) _ (eq-eqb latch.reset 1 one))
    by_case (inr (inr own)) = or_right (nat_eq latch.reset 0 || nat_eq latch.reset 1) _ (eq-eqb latch.reset latch.current own)

-- the line of these literals defines the first of them
pub record Defines (h : Header) (raw : Raw) (lit : ℕ) (others : List ℕ) : Type 0 where
  -- none of the line's literals is past the greatest variable
  pub within : AreWithin h (lit ∷ others)
  -- the literal that is defined is even and at least 2
  pub definable : IsDefinable lit
  -- its variable isn't defined yet
  pub fresh : has (defined raw) (variable lit) ≡ false

-- an item that may follow what has been read
abbrev pub Fits : Header → Raw → Item → Type 0
Fits h raw (InputItem lit) = Defines h raw lit []
Fits h raw (LatchItem latch) = Defines h raw latch.current (latch.next ∷ []) × HasReset latch
Fits h raw (SafetyItem lit) = AreWithin h (lit ∷ [])
Fits h raw (SizeItem size) = sum raw.sizes + size ≤ 2 ^ 24
Fits h raw (LivenessItem lit) = AreWithin h (lit ∷ [])
Fits h raw (GateItem gate) = Defines h raw gate.lhs (gate.rhs0 ∷ gate.rhs1 ∷ [])
Fits h raw (SymbolItem symbol) = (symbol.position < count_of h symbol.kind) × (list_any (is_of_same symbol) raw.symbols ≡ false)

-- it is one whose checks pass
pub passes_where_fits : (h : Header) (raw : Raw) (at : ℕ) (item : Item) → Fits h raw item → Passes (checks h raw at item)
passes_where_fits h raw at (InputItem lit) d = (not_past_where_within h (lit ∷ []) d.within, (passes_where_definable lit d.definable, (d.fresh, tt)))
passes_where_fits h raw at (LatchItem latch) (d, reset) =
    (not_past_where_within h (latch.current ∷ latch.next ∷ []) d.within, (passes_where_definable latch.current d.definable, (d.fresh, (passes_where_reset latch reset, tt))))
passes_where_fits h raw at (SafetyItem lit) within = (not_past_where_within h (lit ∷ []) within, tt)
passes_where_fits h raw at (SizeItem size) most = (le-ltb (2 ^ 24) (sum raw.sizes + size) most, tt)
passes_where_fits h raw at (LivenessItem lit) within = (not_past_where_within h (lit ∷ []) within, tt)
passes_where_fits h raw at (GateItem gate) d =
    (not_past_where_within h (gate.lhs ∷ gate.rhs0 ∷ gate.rhs1 ∷ []) d.within, (passes_where_definable gate.lhs d.definable, (d.fresh, tt)))
passes_where_fits h raw at (SymbolItem symbol) (below, fresh) = (lt-leb (count_of h symbol.kind) symbol.position below, (fresh, tt))

-- an item whose checks pass may follow what has been read
pub fits_where_passes : (h : Header) (raw : Raw) (at : ℕ) (item : Item) → Passes (checks h raw at item) → Fits h raw item
fits_where_passes h raw at (InputItem lit) (past, (odd, (twice, end))) =
    record { within = within_where_not_past h (lit ∷ []) past; definable = definable_where_it_passes lit odd; fresh = twice }
fits_where_passes h raw at (LatchItem latch) (past, (odd, (twice, (reset, end)))) = (
  record { within = within_where_not_past h (latch.current ∷ latch.next ∷ []) past; definable = definable_where_it_passes latch.current odd; fresh = twice },
  reset_where_it_passes latch reset,
)
fits_where_passes h raw at (SafetyItem lit) (past, end) = within_where_not_past h (lit ∷ []) past
fits_where_passes h raw at (SizeItem size) (large, end) = ltb-false (2 ^ 24) (sum raw.sizes + size) large
fits_where_passes h raw at (LivenessItem lit) (past, end) = within_where_not_past h (lit ∷ []) past
fits_where_passes h raw at (GateItem gate) (past, (odd, (twice, end))) =
    record { within = within_where_not_past h (gate.lhs ∷ gate.rhs0 ∷ gate.rhs1 ∷ []) past; definable = definable_where_it_passes gate.lhs odd; fresh = twice }
fits_where_passes h raw at (SymbolItem symbol) (outside, (twice, end)) = (leb-false (count_of h symbol.kind) symbol.position outside, twice)
