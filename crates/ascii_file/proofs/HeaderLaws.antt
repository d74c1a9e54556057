-- The header by numbers cut to 32 bits, and its letters one by one.
use Rattle.std.proofs.Common.{ℕ, ◌+◌, ◌-◌, ◌^◌, ◌<◌, ◌≤◌, ◌≡◌, inl, inr, suc, zero, length, List, [], ◌∷◌, map, drop, get_or, Option, Some, None, Result, Ok, Err, refl, arith, Bool, true, false, ◌&&◌, cond, nat_eq, nat_lt, nat_le, ap, ap₂, sym, ◌∙◌, codes}
use Rattle.std.proofs.lemmas.Bool.{cond-true, cases_lt, lt-ltb, le-ltb, ltb-false, eq-eqb, ne_eqb}
use Rattle.std.proofs.lemmas.List.{length-map, drop_more, drop_all}
use Rattle.std.specs.List.{starts_with}
use Rattle.std.specs.Option.{option_and_then}
use Rattle.file_words.specs.declared.fault.ReadError.{ReadError}
use Rattle.file_words.specs.declared.fault.ReadError.TheVariants.{BadHeader, TooLarge, MaxIndex}
use Rattle.file_words.specs.Lines.{numbers_of}
use Rattle.file_words.specs.Answering.{◌>>=◌}
use Rattle.ascii_file.specs.declared.header.Header.{Header}
use Rattle.ascii_file.specs.Headers.{number_at, header_in, header_of}
use Rattle.ascii_file.specs.Reading.{unless, checked_header, read_header}
use Rattle.ascii_file.proofs.CheckLaws.{Passes}
use Rattle.ascii_file.specs.parts.Rows.{clamped, up_to_nine, row_of}
use Rattle.ascii_file.specs.declared.parts.numbers.NumberLine.{NumberLine}
use Rattle.ascii_file.specs.parts.Open.{numbers_with}
use Rattle.ascii_file.specs.parts.Header.{header_row}
use Rattle.ascii_file.specs.parts.Limits.{limits, limited, counts_past_greatest}

-- ---- checks of cut numbers

unless_same : {A : Type 0} (list : List (Bool × ReadError)) (x y : Result A ReadError) → (Passes list → x ≡ y) → unless list x ≡ unless list y
unless_same [] x y same = same tt
unless_same ((true, fault) ∷ more) x y same = refl
unless_same ((false, fault) ∷ more) x y same = unless_same more x y (λ passes. same (refl, passes))

past-clamped : (most n : ℕ) → most < 2 ^ 32 - 1 → nat_lt most (clamped n) ≡ nat_lt most n
past-clamped most n small = elim (cases_lt most n) [
  | inl past ↦ lt-ltb _ _ (omega arith) ∙ sym (lt-ltb _ _ past)
  | inr within ↦ le-ltb _ _ (omega arith) ∙ sym (le-ltb _ _ within)
]

-- the header with its numbers cut
abbrev pub cut : Header → Header
cut h = record {
  greatest = clamped h.greatest;
  inputs = clamped h.inputs;
  latches = clamped h.latches;
  outputs = clamped h.outputs;
  gates = clamped h.gates;
  bad = clamped h.bad;
  constraints = clamped h.constraints;
  justice = clamped h.justice;
  fairness = clamped h.fairness;
}

limits-cut : (h : Header) → limits (cut h) ≡ limits h
limits-cut h =
    same (past-clamped (2 ^ 28 - 1) h.greatest (omega arith)) (past-clamped (2 ^ 24) h.outputs (omega arith)) (past-clamped (2 ^ 24) h.bad (omega arith)) (past-clamped (2 ^ 24) h.constraints (omega arith))
    (past-clamped (2 ^ 24) h.justice (omega arith)) (past-clamped (2 ^ 24) h.fairness (omega arith))
  where
    same : {a b c d e f p q r s t u : Bool} → a ≡ p → b ≡ q → c ≡ r → d ≡ s → e ≡ t → f ≡ u
        → ◌≡◌ {A = List (Bool × ReadError)} ((a, TooLarge 0) ∷ (b, TooLarge 0) ∷ (c, TooLarge 0) ∷ (d, TooLarge 0) ∷ (e, TooLarge 0) ∷ (f, TooLarge 0) ∷ [])
        ((p, TooLarge 0) ∷ (q, TooLarge 0) ∷ (r, TooLarge 0) ∷ (s, TooLarge 0) ∷ (t, TooLarge 0) ∷ (u, TooLarge 0) ∷ [])
    same e1 e2 e3 e4 e5 e6 = cc

-- whether the header's numbers are in a wrong relation
abbrev pub Relation : Type 0
Relation = Header → Bool

-- a header of this form, if there is one: its numbers within their limits, and in the right
-- relation
abbrev pub formed : Relation → Option Header → Result Header ReadError
formed is_off None = Err (BadHeader 0)
formed is_off (Some h) = unless (limits h) (unless ((is_off h, MaxIndex 0) ∷ []) (Ok h))

-- the relation bounds what is counted by the greatest variable, and cutting changes nothing about
-- it
pub record IsCuttable (is_off : Relation) : Type 0 where
  -- if the relation is right, inputs, latches and gates come to at most the greatest variable
  pub bounds : (h : Header) → is_off h ≡ false → h.inputs + h.latches + h.gates ≤ h.greatest
  -- if the greatest variable is within its limit, cutting the numbers doesn't change whether the
  -- relation is right
  pub cuts : (h : Header) → h.greatest ≤ 2 ^ 28 - 1 → is_off (cut h) ≡ is_off h

clamped-small : (n : ℕ) → n < 2 ^ 32 → clamped n ≡ n
clamped-small n small = omega (arith, small)

header_same : (h : Header) (g i l o a b c j f : ℕ) → g ≡ h.greatest → i ≡ h.inputs → l ≡ h.latches → o ≡ h.outputs → a ≡ h.gates → b ≡ h.bad → c ≡ h.constraints → j ≡ h.justice → f ≡ h.fairness
    → record { greatest = g; inputs = i; latches = l; outputs = o; gates = a; bad = b; constraints = c; justice = j; fairness = f } ≡ h
header_same h g i l o a b c j f e1 e2 e3 e4 e5 e6 e7 e8 e9 = rw (e1, e2, e3, e4, e5, e6, e7, e8, e9) refl

total-cut : (is_off : Relation) → IsCuttable is_off → (h : Header) → Passes (limits h) → unless ((is_off (cut h), MaxIndex 0) ∷ []) (Ok (cut h)) ≡ unless ((is_off h, MaxIndex 0) ∷ []) (Ok h)
total-cut is_off cuttable h (m, (o, (b, (c, (j, (f, end)))))) = by_test (is_off h) refl
  where
    greatest : h.greatest ≤ 2 ^ 28 - 1
    greatest = ltb-false (2 ^ 28 - 1) h.greatest m

    fits : is_off h ≡ false → h.inputs + h.latches + h.gates ≤ h.greatest
    fits e = cuttable.bounds h e

    same : is_off h ≡ false → cut h ≡ h
    same e =
        header_same h (clamped h.greatest) (clamped h.inputs) (clamped h.latches) (clamped h.outputs) (clamped h.gates) (clamped h.bad) (clamped h.constraints) (clamped h.justice) (clamped h.fairness)
        (clamped-small h.greatest (omega (arith, greatest))) (clamped-small h.inputs (omega (arith, fits e, greatest))) (clamped-small h.latches (omega (arith, fits e, greatest))) (clamped-small h.outputs (omega (arith, ltb-false (2 ^ 24) h.outputs o)))
        (clamped-small h.gates (omega (arith, fits e, greatest))) (clamped-small h.bad (omega (arith, ltb-false (2 ^ 24) h.bad b))) (clamped-small h.constraints (omega (arith, ltb-false (2 ^ 24) h.constraints c)))
        (clamped-small h.justice (omega (arith, ltb-false (2 ^ 24) h.justice j))) (clamped-small h.fairness (omega (arith, ltb-false (2 ^ 24) h.fairness f)))

    by_test : (off : Bool) → is_off h ≡ off → unless ((is_off (cut h), MaxIndex 0) ∷ []) (Ok (cut h)) ≡ unless ((is_off h, MaxIndex 0) ∷ []) (Ok h)
    by_test true e = cond-true _ _ _ (cuttable.cuts h greatest ∙ e) ∙ sym (cond-true _ _ _ e)
    by_test false e = ap (λ (x : Header). unless ((is_off x, MaxIndex 0) ∷ []) (Ok x)) (same e)

checked-cut : (is_off : Relation) → IsCuttable is_off → (h : Header) → formed is_off (Some (cut h)) ≡ formed is_off (Some h)
checked-cut is_off cuttable h =
    ap (λ (list : List (Bool × ReadError)). unless list (unless ((is_off (cut h), MaxIndex 0) ∷ []) (Ok (cut h)))) (limits-cut h)
    ∙ unless_same (limits h) _ _ (total-cut is_off cuttable h)

-- ---- the numbers of the line

number-cut : (ns : List ℕ) (k : ℕ) → get_or (map clamped ns) k 0 ≡ clamped (get_or ns k 0)
number-cut [] k = refl
number-cut (n ∷ ns) zero = refl
number-cut (n ∷ ns) (suc k) = number-cut ns k

abbrev header_by : (ℕ → ℕ) → Header
header_by at = record { greatest = at 0; inputs = at 1; latches = at 2; outputs = at 3; gates = at 4; bad = at 5; constraints = at 6; justice = at 7; fairness = at 8 }

header-cut : (ns : List ℕ) → header_by (number_at (map clamped ns)) ≡ cut (header_by (number_at ns))
header-cut ns =
    header_same (cut (header_by (number_at ns))) _ _ _ _ _ _ _ _ _ (number-cut ns 0) (number-cut ns 1) (number-cut ns 2) (number-cut ns 3) (number-cut ns 4) (number-cut ns 5) (number-cut ns 6) (number-cut ns 7) (number-cut ns 8)

-- a line of more than nine numbers is no header, and one of up to nine is the header of the cut
-- numbers
numbers-cut : (is_off : Relation) → IsCuttable is_off → (ns : List ℕ) → formed is_off (option_and_then header_in (up_to_nine (map clamped ns))) ≡ formed is_off (header_in ns)
numbers-cut is_off cuttable ns = by_test (nat_le 5 (length ns)) (nat_le (length ns) 9) (ap (nat_le 5) (length-map ns clamped)) (ap (λ (n : ℕ). nat_le n 9) (length-map ns clamped))
  where
    by_test : (low few : Bool) → nat_le 5 (length (map clamped ns)) ≡ low → nat_le (length (map clamped ns)) 9 ≡ few
        → formed is_off (option_and_then header_in (up_to_nine (map clamped ns))) ≡ formed is_off (cond (low && few) (Some (header_by (number_at ns))) None)
    by_test low true is few_is =
        ap (λ (b : Bool). formed is_off (option_and_then header_in (cond b (Some (map clamped ns)) None))) few_is
        ∙ ap₂ (λ (a b : Bool). formed is_off (cond (a && b) (Some (header_by (number_at (map clamped ns)))) None)) is few_is
        ∙ inner low
      where
        inner : (low : Bool) → formed is_off (cond (low && true) (Some (header_by (number_at (map clamped ns)))) None) ≡ formed is_off (cond (low && true) (Some (header_by (number_at ns))) None)
        inner true = ap (λ (h : Header). formed is_off (Some h)) (header-cut ns) ∙ checked-cut is_off cuttable (header_by (number_at ns))
        inner false = refl
    by_test true false is few_is = ap (λ (b : Bool). formed is_off (option_and_then header_in (cond b (Some (map clamped ns)) None))) few_is
    by_test false false is few_is = ap (λ (b : Bool). formed is_off (option_and_then header_in (cond b (Some (map clamped ns)) None))) few_is

-- the header that a line of these letters spells
abbrev pub spelt : List ℕ → List ℕ → Option Header
spelt letters line = cond (starts_with nat_eq line letters) (option_and_then header_in (numbers_of (drop 4 line))) None

-- a header of either form by its numbers as 32 bits hold them
pub header-of-row : (is_off : Relation) → IsCuttable is_off → (letters line : List ℕ) → formed is_off (option_and_then header_in (header_row letters line)) ≡ formed is_off (spelt letters line)
unfolding header_row row_of
header-of-row is_off cuttable letters line = by_start (starts_with nat_eq line letters)
  where
    by_numbers : (found : Option (List ℕ)) → formed is_off (option_and_then header_in (option_and_then (λ ns. up_to_nine (map clamped ns)) found)) ≡ formed is_off (option_and_then header_in found)
    by_numbers None = refl
    by_numbers (Some ns) = numbers-cut is_off cuttable ns

    by_start : (b : Bool) → formed is_off (option_and_then header_in (cond b (option_and_then (λ ns. up_to_nine (map clamped ns)) (numbers_of (drop 4 line))) None))
        ≡ formed is_off (cond b (option_and_then header_in (numbers_of (drop 4 line))) None)
    by_start true = by_numbers (numbers_of (drop 4 line))
    by_start false = refl

-- the single numbers first, and then their relation
pub formed-limited : (is_off : Relation) (o : Option Header) → (limited o >>= λ h. unless ((is_off h, MaxIndex 0) ∷ []) (Ok h)) ≡ formed is_off o
formed-limited is_off None = refl
formed-limited is_off (Some h) = by_list (limits h)
  where
    by_list : (list : List (Bool × ReadError)) → (unless list (Ok h) >>= λ h. unless ((is_off h, MaxIndex 0) ∷ []) (Ok h)) ≡ unless list (unless ((is_off h, MaxIndex 0) ∷ []) (Ok h))
    by_list [] = refl
    by_list ((true, fault) ∷ more) = refl
    by_list ((false, fault) ∷ more) = by_list more

-- ---- ASCII

past-cuttable : IsCuttable counts_past_greatest
past-cuttable = record {
  bounds = λ h e. ltb-false h.greatest (h.inputs + h.latches + h.gates) e;
  cuts = λ h greatest. elim (cases_lt h.greatest (h.inputs + h.latches + h.gates)) [
    | inl past ↦ lt-ltb _ _ (omega (arith, past, greatest)) ∙ sym (lt-ltb _ _ past)
    | inr fits ↦ le-ltb _ _ (omega (arith, fits, greatest)) ∙ sym (le-ltb _ _ fits)
  ];
}

-- the header of an ASCII line by its numbers cut to 32 bits is the header that reading gives
pub read-header : (row : Option (List ℕ)) (line : List ℕ) → row ≡ header_row (codes "aag ") line
    → (limited (option_and_then header_in row) >>= λ h. unless ((counts_past_greatest h, MaxIndex 0) ∷ []) (Ok h)) ≡ read_header line
unfolding read_header header_of
read-header row line e =
    formed-limited counts_past_greatest (option_and_then header_in row) ∙ ap (λ (r : Option (List ℕ)). formed counts_past_greatest (option_and_then header_in r)) e ∙ header-of-row counts_past_greatest past-cuttable (codes "aag ") line
    ∙ by_option (spelt (codes "aag ") line)
  where
    by_option : (o : Option Header) → formed counts_past_greatest o ≡ checked_header o
    by_option None = refl
    by_option (Some h) = refl

-- ---- the letters

drop_letter : (letters : List ℕ) (k : ℕ) → length letters ≡ 4 → k < 4 → drop k letters ≡ get_or letters k 0 ∷ drop (k + 1) letters
drop_letter letters k four less = drop_more letters k 0 (omega (arith, four, less))

-- one letter more
pub letter_step : (letters : List ℕ) (line : NumberLine) (k b : ℕ) (rest : List ℕ) → length letters ≡ 4 → k < 4 → b ≡ get_or letters k 0
    → cond (starts_with nat_eq rest (drop (k + 1) letters)) (numbers_with line (drop (4 - (k + 1)) rest)) None ≡ cond (starts_with nat_eq (b ∷ rest) (drop k letters)) (numbers_with line (drop (4 - k) (b ∷ rest))) None
letter_step letters line k b rest four less e =
    ap (λ (t : Bool). cond (t && starts_with nat_eq rest (drop (k + 1) letters)) (numbers_with line (drop (4 - (k + 1)) rest)) None) (sym (eq-eqb (get_or letters k 0) b (sym e)))
    ∙ ap₂ (λ (list : List ℕ) (n : ℕ). cond (starts_with nat_eq (b ∷ rest) list) (numbers_with line (drop n (b ∷ rest))) None) (sym (drop_letter letters k four less)) (short k less)
  where
    short : (k : ℕ) → k < 4 → suc (4 - (k + 1)) ≡ 4 - k
    short k less = omega (arith, less)

-- another letter
pub other_letter : (letters : List ℕ) (line : NumberLine) (k b : ℕ) (rest : List ℕ) → length letters ≡ 4 → k < 4 → (b ≡ get_or letters k 0 → ⊥)
    → cond (starts_with nat_eq (b ∷ rest) (drop k letters)) (numbers_with line (drop (4 - k) (b ∷ rest))) None ≡ None
other_letter letters line k b rest four less other =
    ap (λ (list : List ℕ). cond (starts_with nat_eq (b ∷ rest) list) (numbers_with line (drop (4 - k) (b ∷ rest))) None) (drop_letter letters k four less)
    ∙ ap (λ (t : Bool). cond (t && starts_with nat_eq rest (drop (k + 1) letters)) (numbers_with line (drop (4 - k) (b ∷ rest))) None) (ne_eqb (get_or letters k 0) b (λ e. other (sym e)))

-- a letter is missing
pub none_yet : (letters : List ℕ) (line : NumberLine) (k : ℕ) → length letters ≡ 4 → k < 4 → cond (starts_with nat_eq [] (drop k letters)) (numbers_with line (drop (4 - k) [])) None ≡ None
none_yet letters line k four less = ap (λ (list : List ℕ). cond (starts_with nat_eq [] list) (numbers_with line (drop (4 - k) [])) None) (drop_letter letters k four less)

-- all letters have come
pub all_letters : (letters : List ℕ) (line : NumberLine) (k : ℕ) (rest : List ℕ) → length letters ≡ 4 → k ≡ 4 → cond (starts_with nat_eq rest (drop k letters)) (numbers_with line (drop (4 - k) rest)) None ≡ numbers_with line rest
all_letters letters line k rest four e =
    ap₂ (λ (list : List ℕ) (n : ℕ). cond (starts_with nat_eq rest list) (numbers_with line (drop n rest)) None) (drop_all k letters (omega (arith, four, e))) none_left
  where
    none_left : 4 - k ≡ 0
    none_left = omega (arith, e)
