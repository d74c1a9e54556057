-- The first line of bytes, and what a line and the deltas of a gate spell.
use Rattle.std.proofs.Common.{ℕ, suc, zero, ◌+◌, ◌-◌, ◌/◌, ◌%◌, ◌^◌, ◌<◌, ◌≤◌, ◌≡◌, ◌≢◌, List, [], ◌∷◌, ◌++◌, length, Some, Bool, true, false, cond, not, nat_eq, nat_lt, refl, sym, ap, ◌∙◌, append_assoc, arith}
use Rattle.std.specs.Option.{option_and_then}
use Rattle.std.proofs.lemmas.Bool.{and_parts, not-true, cond-false, eqb-true}
use Rattle.counted_io.specs.Line.{line}
use Rattle.file_words.specs.Lines.{numbers_of}
use Rattle.file_words.specs.Cuts.{lacks}
use Rattle.file_words.proofs.DecimalLaws.{row_line, row-is_line, row_line-lacks_newline, numbers_of-row_line}
use Rattle.binary_file.specs.Deltas.{bytes_within, delta_of}
use Rattle.binary_file.proofs.DeltaLaws.{delta_laws}
use Rattle.ascii_file.specs.declared.header.Header.{Header}
use Rattle.ascii_file.specs.declared.raw.RawLatch.{RawLatch}
use Rattle.ascii_file.specs.declared.raw.RawGate.{RawGate}
use Rattle.ascii_file.specs.declared.raw.Section.TheVariants.{Latches, Gates}
use Rattle.ascii_file.specs.Raw.{Raw}
use Rattle.ascii_file.specs.Items.{Item, LatchItem}
use Rattle.ascii_file.specs.Files.{HasReset}
use Rattle.ascii_file.proofs.TextLineLaws.{reset_numbers}
use Rattle.binary_file.specs.Items.{next_section, next_latch, next_gate, latch_in, item_in, first_line, after_line}
use Rattle.binary_file.specs.Files.{IsWithin, Fits, IsLine, IsDelta, IsGate}

-- ---- lines

-- bytes without a newline, up to one
pub first_line-is : (l rest : List ℕ) → lacks 10 l ≡ true → first_line (l ++ 10 ∷ rest) ≡ l
unfolding first_line
first_line-is [] rest clean = refl
first_line-is (b ∷ l) rest clean =
    let parts = and_parts (not (nat_eq b 10)) (lacks 10 l) clean in
    cond-false (nat_eq b 10) [] (b ∷ first_line (l ++ 10 ∷ rest)) (not-true (nat_eq b 10) parts.0)
    ∙ ap (λ (more : List ℕ). b ∷ more) (first_line-is l rest parts.1)

-- after the line that a newline ends stands what follows the newline
pub after_line-is : (l rest : List ℕ) → lacks 10 l ≡ true → after_line (l ++ 10 ∷ rest) ≡ rest
unfolding after_line
after_line-is [] rest clean = refl
after_line-is (b ∷ l) rest clean =
    let parts = and_parts (not (nat_eq b 10)) (lacks 10 l) clean in
    cond-false (nat_eq b 10) (l ++ 10 ∷ rest) (after_line (l ++ 10 ∷ rest)) (not-true (nat_eq b 10) parts.0) ∙ after_line-is l rest parts.1

some_line : (l rest : List ℕ) → l ++ 10 ∷ rest ≢ []
some_line [] rest e = absurd cc
some_line (b ∷ l) rest e = absurd cc

-- a line that spells an item that fits
pub line_is : (h : Header) (raw : Raw) (item : Item) (l rest bytes : List ℕ) → bytes ≡ l ++ 10 ∷ rest → lacks 10 l ≡ true → item_in h raw (next_section h raw) l ≡ Some item → Fits h raw item
    → IsLine h raw item bytes rest
line_is h raw item l rest bytes are clean spelt fits = record {
  there = λ none. some_line l rest (sym are ∙ none);
  spelt = ap (λ (bs : List ℕ). item_in h raw (next_section h raw) (first_line bs)) are ∙ ap (item_in h raw (next_section h raw)) (first_line-is l rest clean) ∙ spelt;
  fits = fits;
  after = ap after_line are ∙ after_line-is l rest clean;
}

-- the line of numbers, and what follows it
pub row_then : (ns rest : List ℕ) → line ns ++ rest ≡ row_line ns ++ 10 ∷ rest
row_then ns rest = ap (λ (text : List ℕ). text ++ rest) (row-is_line ns) ∙ append_assoc (row_line ns) (10 ∷ []) rest

-- ---- latches

-- the numbers of a latch's line
abbrev pub latch_numbers : RawLatch → List ℕ
latch_numbers latch = latch.next ∷ reset_numbers latch.reset

abbrev pub latch_bytes : RawLatch → List ℕ
latch_bytes latch = line (latch_numbers latch)

-- a latch that may come next
pub record IsNextLatch (h : Header) (raw : Raw) (latch : RawLatch) : Type 0 where
  -- its literal is the next one of a latch
  pub current : latch.current ≡ next_latch h raw
  -- its next literal is within the header's range
  pub next : IsWithin h latch.next
  -- its reset is 0, 1 or its own literal
  pub has_reset : HasReset latch
  -- its numbers fit 64 bits
  pub small : (latch.next < 2 ^ 64) × (latch.reset < 2 ^ 64)

zero_of : (n : ℕ) → nat_eq n 0 ≡ true → n ≡ 0
zero_of n e = eqb-true n 0 e

latch_spelt : (latch : RawLatch) (test : Bool) → nat_eq latch.reset 0 ≡ test → (latch.next < 2 ^ 64) × (latch.reset < 2 ^ 64)
    → option_and_then (latch_in latch.current) (numbers_of (row_line (latch.next ∷ cond test [] (latch.reset ∷ [])))) ≡ Some (LatchItem latch)
latch_spelt latch true is small =
    let none : latch.reset ≡ 0 = zero_of latch.reset is in
    ap (option_and_then (latch_in latch.current)) (numbers_of-row_line latch.next [] (small.0, tt))
    ∙ ap (λ (n : ℕ). Some (LatchItem (record { current = latch.current; next = latch.next; reset = n }))) (sym none)
latch_spelt latch false is small = ap (option_and_then (latch_in latch.current)) (numbers_of-row_line latch.next (latch.reset ∷ []) (small.0, (small.1, tt)))

-- the bytes of a latch that may come next are the line of that latch
pub latch_is : (h : Header) (raw : Raw) (latch : RawLatch) (rest : List ℕ) → next_section h raw ≡ Latches → IsNextLatch h raw latch → IsLine h raw (LatchItem latch) (latch_bytes latch ++ rest) rest
latch_is h raw latch rest here is =
    line_is h raw (LatchItem latch) (row_line (latch_numbers latch)) rest (latch_bytes latch ++ rest) (row_then (latch_numbers latch) rest) (row_line-lacks_newline (latch_numbers latch))
    (ap (λ s. item_in h raw s (row_line (latch_numbers latch))) here
    ∙ ap (λ (n : ℕ). option_and_then (latch_in n) (numbers_of (row_line (latch_numbers latch)))) (sym is.current)
    ∙ latch_spelt latch (nat_eq latch.reset 0) refl is.small)
    (is.next, is.has_reset)

-- ---- gates

abbrev pub gate_bytes : RawGate → List ℕ
gate_bytes gate = delta_of (gate.lhs - gate.rhs0) ++ delta_of (gate.rhs0 - gate.rhs1)

-- a gate that may come next
pub record IsNextGate (h : Header) (raw : Raw) (gate : RawGate) : Type 0 where
  -- its literal is the next one of a gate
  pub lhs : gate.lhs ≡ next_gate h raw
  -- the larger fan-in is below it
  pub falls : gate.rhs0 < gate.lhs
  -- the larger fan-in is first
  pub ordered : gate.rhs1 ≤ gate.rhs0
  -- its literal is below 2^35
  pub small : gate.lhs < 2 ^ 35

-- n bytes at most
length-within : (more n : ℕ) → length (bytes_within more n) ≤ more + 1
unfolding bytes_within
length-within zero n = omega arith
length-within (suc more) n = by_test (nat_lt n 128) (length-within more (n / 128))
  where
    by_test : (test : Bool) → length (bytes_within more (n / 128)) ≤ more + 1 → length (cond test (n ∷ []) ((n % 128 + 128) ∷ bytes_within more (n / 128))) ≤ suc more + 1
    by_test true later = omega arith
    by_test false later = omega (arith, later)

is_shortest : (n : ℕ) → n < 2 ^ 35 → IsDelta (delta_of n)
is_shortest n small = ((delta_laws n small).form, length-within 4 n)

-- the bytes of a gate that may come next are the deltas of that gate
pub gate_is : (h : Header) (raw : Raw) (gate : RawGate) (rest : List ℕ) → next_section h raw ≡ Gates → IsNextGate h raw gate → IsGate h raw gate (gate_bytes gate ++ rest) rest
gate_is h raw gate rest here is =
    let few : gate.lhs < 2 ^ 35 = is.small in
    let less : gate.rhs0 < gate.lhs = is.falls in
    let most : gate.rhs1 ≤ gate.rhs0 = is.ordered in
    let one : gate.lhs - gate.rhs0 < 2 ^ 35 = omega (arith, few) in
    let two : gate.rhs0 - gate.rhs1 < 2 ^ 35 = omega (arith, few, less) in
    let first = (delta_laws (gate.lhs - gate.rhs0) one).value in
    let second = (delta_laws (gate.rhs0 - gate.rhs1) two).value in
    record {
      here = here;
      first = delta_of (gate.lhs - gate.rhs0);
      second = delta_of (gate.rhs0 - gate.rhs1);
      bytes_are = append_assoc (delta_of (gate.lhs - gate.rhs0)) (delta_of (gate.rhs0 - gate.rhs1)) rest;
      first_form = is_shortest (gate.lhs - gate.rhs0) one;
      second_form = is_shortest (gate.rhs0 - gate.rhs1) two;
      lhs = is.lhs;
      falls = is.falls;
      first_value = omega (arith, first, less);
      second_value = omega (arith, second, most);
    }
