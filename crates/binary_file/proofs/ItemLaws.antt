-- Headers and lines that spell what fits.
use Rattle.std.proofs.Common.{ℕ, ◌+◌, ◌-◌, ◌^◌, ◌≡◌, List, [], ◌∷◌, length, Option, Some, None, Result, Ok, false, nat_eq, ◌&&◌, refl, sym, ap, subst, ◌∙◌}
use Rattle.std.specs.Option.{option_and_then}
use Rattle.std.proofs.lemmas.Bool.{ltb-false, le-ltb, eqb-true, eq-eqb, not-false, not_from_true, cond-false}
use Rattle.file_words.specs.declared.fault.ReadError.{ReadError}
use Rattle.file_words.specs.Lines.{numbers_of}
use Rattle.file_words.specs.Answering.{◌>>=◌}
use Rattle.ascii_file.specs.declared.header.Header.{Header}
use Rattle.ascii_file.specs.declared.raw.Section.{Section}
use Rattle.ascii_file.specs.declared.raw.Section.TheVariants.{Inputs, Latches, Safety, Sizes, Liveness, Gates, Symbols}
use Rattle.ascii_file.specs.Raw.{Raw}
use Rattle.ascii_file.specs.Items.{Item, InputItem, LatchItem, SafetyItem, SizeItem, LivenessItem, GateItem, SymbolItem, section_of, item_of, begins_comment}
use Rattle.ascii_file.specs.Reading.{with_item, malformed, is_symbols}
use Rattle.ascii_file.proofs.CheckLaws as ascii
use Rattle.ascii_file.proofs.CheckLaws.{Passes, unless_ok, unless_passes, same_ok, passes_where_reset, reset_where_it_passes}
use Rattle.ascii_file.proofs.StepLaws.{section_is, no_comment, same_some}
use Rattle.binary_file.specs.Headers.{header_of, binary_header_checks, IsHeaderWithin}
use Rattle.binary_file.specs.Items.{next_section, next_latch, latch_in, item_in}
use Rattle.binary_file.specs.Reading.{InComment, before_item, checked_header, read_header, line_checks, take_item, read_line, end_line}
use Rattle.binary_file.specs.Files.{Fits}

-- ---- the header

header_passes : (h : Header) → IsHeaderWithin h → Passes (binary_header_checks h)
header_passes h within = (
  le-ltb (2 ^ 28 - 1) h.greatest within.greatest,
  (
    le-ltb (2 ^ 24) h.outputs within.outputs,
    (
      le-ltb (2 ^ 24) h.bad within.bad,
      (
        le-ltb (2 ^ 24) h.constraints within.constraints,
        (
          le-ltb (2 ^ 24) h.justice within.justice,
          (
            le-ltb (2 ^ 24) h.fairness within.fairness,
            (not_from_true (nat_eq (h.inputs + h.latches + h.gates) h.greatest) (eq-eqb (h.inputs + h.latches + h.gates) h.greatest within.total), tt),
          ),
        ),
      ),
    ),
  ),
)

header_within : (h : Header) → Passes (binary_header_checks h) → IsHeaderWithin h
header_within h (greatest, (outputs, (bad, (constraints, (justice, (fairness, (total, end))))))) = record {
  greatest = ltb-false (2 ^ 28 - 1) h.greatest greatest;
  outputs = ltb-false (2 ^ 24) h.outputs outputs;
  bad = ltb-false (2 ^ 24) h.bad bad;
  constraints = ltb-false (2 ^ 24) h.constraints constraints;
  justice = ltb-false (2 ^ 24) h.justice justice;
  fairness = ltb-false (2 ^ 24) h.fairness fairness;
  total = eqb-true (h.inputs + h.latches + h.gates) h.greatest (not-false (nat_eq (h.inputs + h.latches + h.gates) h.greatest) total);
}

-- a line that spells a header within the limits is read as that header
pub header_read : (line : List ℕ) (h : Header) → header_of line ≡ Some h → IsHeaderWithin h → read_header line ≡ Ok h
unfolding read_header
header_read line h spelt within = ap checked_header spelt ∙ unless_passes (binary_header_checks h) (Ok h) (header_passes h within)

-- a header that is read is within the limits, and the line spells it
pub header_was_read : (line : List ℕ) (h : Header) → read_header line ≡ Ok h → (header_of line ≡ Some h) × IsHeaderWithin h
unfolding read_header
header_was_read line h e = by_found (header_of line) refl e
  where
    by_found : (found : Option Header) → header_of line ≡ found → checked_header found ≡ Ok h → (header_of line ≡ Some h) × IsHeaderWithin h
    by_found None is e = absurd cc
    by_found (Some g) is e =
        let checked = unless_ok (binary_header_checks g) (Ok g) h e in
        let same : g ≡ h = same_ok g h checked.1 in
        (is ∙ ap Some same, subst IsHeaderWithin same (header_within g checked.0))

-- ---- the items of lines

passes_where_fits : (h : Header) (raw : Raw) (at : ℕ) (item : Item) → Fits h raw item → Passes (line_checks h raw at item)
passes_where_fits h raw at (InputItem lit) fits = absurd fits
passes_where_fits h raw at (LatchItem latch) (within, reset) = ((ascii.passes_where_fits h raw at (SafetyItem latch.next) (within, tt)).0, (passes_where_reset latch reset, tt))
passes_where_fits h raw at (SafetyItem lit) within = ascii.passes_where_fits h raw at (SafetyItem lit) (within, tt)
passes_where_fits h raw at (SizeItem size) most = ascii.passes_where_fits h raw at (SizeItem size) most
passes_where_fits h raw at (LivenessItem lit) within = ascii.passes_where_fits h raw at (LivenessItem lit) (within, tt)
passes_where_fits h raw at (GateItem gate) fits = absurd fits
passes_where_fits h raw at (SymbolItem symbol) fits = ascii.passes_where_fits h raw at (SymbolItem symbol) fits

-- a section whose items are lines
abbrev HasLines : Section → Type 0
HasLines Inputs = ⊥
HasLines Gates = ⊥
HasLines section = Unit {0}

fits_where_passes : (h : Header) (raw : Raw) (at : ℕ) (item : Item) → HasLines (section_of item) → Passes (line_checks h raw at item) → Fits h raw item
fits_where_passes h raw at (InputItem lit) has passes = has
fits_where_passes h raw at (LatchItem latch) has (past, (reset, end)) = ((ascii.fits_where_passes h raw at (SafetyItem latch.next) (past, tt)).0, reset_where_it_passes latch reset)
fits_where_passes h raw at (SafetyItem lit) has passes = (ascii.fits_where_passes h raw at (SafetyItem lit) passes).0
fits_where_passes h raw at (SizeItem size) has passes = ascii.fits_where_passes h raw at (SizeItem size) passes
fits_where_passes h raw at (LivenessItem lit) has passes = (ascii.fits_where_passes h raw at (LivenessItem lit) passes).0
fits_where_passes h raw at (GateItem gate) has passes = has
fits_where_passes h raw at (SymbolItem symbol) has passes = ascii.fits_where_passes h raw at (SymbolItem symbol) passes

-- an item that is made of a latch's numbers belongs to the section of latches
pub latch_section : (current : ℕ) (found : Option (List ℕ)) (item : Item) → option_and_then (latch_in current) found ≡ Some item → section_of item ≡ Latches
latch_section current None item e = absurd cc
latch_section current (Some []) item e = absurd cc
latch_section current (Some (a ∷ [])) item e = ap section_of (sym (same_some (LatchItem (record { current = current; next = a; reset = 0 })) item e))
latch_section current (Some (a ∷ b ∷ [])) item e = ap section_of (sym (same_some (LatchItem (record { current = current; next = a; reset = b })) item e))
latch_section current (Some (a ∷ b ∷ c ∷ ns)) item e = absurd cc

has_lines : (h : Header) (raw : Raw) (section : Section) (line : List ℕ) (item : Item) → item_in h raw section line ≡ Some item → HasLines (section_of item)
has_lines h raw Inputs line item e = absurd cc
has_lines h raw Latches line item e = subst HasLines (sym (latch_section (next_latch h raw) (numbers_of line) item e)) tt
has_lines h raw Safety line item e = subst HasLines (sym (section_is Safety line item e)) tt
has_lines h raw Sizes line item e = subst HasLines (sym (section_is Sizes line item e)) tt
has_lines h raw Liveness line item e = subst HasLines (sym (section_is Liveness line item e)) tt
has_lines h raw Gates line item e = absurd cc
has_lines h raw Symbols line item e = subst HasLines (sym (section_is Symbols line item e)) tt

-- a section of lines isn't that of gates
pub no_gate : (h : Header) (raw : Raw) (section : Section) (line : List ℕ) (item : Item) → item_in h raw section line ≡ Some item → section ≡ Gates → ⊥
no_gate h raw section line item e is = none (sym (ap (λ (s : Section). item_in h raw s line) is) ∙ e)
  where
    none : ◌≡◌ {A = Option Item} None (Some item) → ⊥
    none same = cc

-- nor does its item begin a comment
not_comment : (h : Header) (raw : Raw) (section : Section) (line : List ℕ) (item : Item) → item_in h raw section line ≡ Some item → (is_symbols section && begins_comment line) ≡ false
unfolding item_of
not_comment h raw Inputs line item e = refl
not_comment h raw Latches line item e = refl
not_comment h raw Safety line item e = refl
not_comment h raw Sizes line item e = refl
not_comment h raw Liveness line item e = refl
not_comment h raw Gates line item e = refl
not_comment h raw Symbols line item e = no_comment line item e

line_read : (h : Header) (raw : Raw) (at : ℕ) (line : List ℕ) (item : Item) → item_in h raw (next_section h raw) line ≡ Some item → Fits h raw item → read_line h raw at line ≡ Ok (with_item raw item)
unfolding read_line
line_read h raw at line item spelt fits =
    ap (take_item h raw at (malformed (next_section h raw) at line)) spelt ∙ unless_passes (line_checks h raw at item) (Ok (with_item raw item)) (passes_where_fits h raw at item fits)

-- a line that spells an item which fits leads on to the next item
pub item_ended : (h : Header) (raw : Raw) (at : ℕ) (line : List ℕ) (item : Item) → item_in h raw (next_section h raw) line ≡ Some item → Fits h raw item
    → end_line h raw at line ≡ Ok (before_item h (with_item raw item) (at + length line + 1))
unfolding end_line
item_ended h raw at line item spelt fits =
    cond-false (is_symbols (next_section h raw) && begins_comment line) (Ok (InComment h raw)) (read_line h raw at line >>= λ more. Ok (before_item h more (at + length line + 1)))
    (not_comment h raw (next_section h raw) line item spelt)
    ∙ ap (λ (read : Result Raw ReadError). read >>= λ more. Ok (before_item h more (at + length line + 1))) (line_read h raw at line item spelt fits)

-- what was read of a line
pub record LineRead (h : Header) (raw : Raw) (line : List ℕ) (more : Raw) : Type 0 where
  -- the item
  pub item : Item
  -- the line spells it, in the section that is due
  pub spelt : item_in h raw (next_section h raw) line ≡ Some item
  -- it fits what stands before it
  pub fits : Fits h raw item
  -- with it the raw circuit is the one that was read
  pub grown : with_item raw item ≡ more

-- a line that is read spells an item which fits
pub line_was_read : (h : Header) (raw more : Raw) (at : ℕ) (line : List ℕ) → read_line h raw at line ≡ Ok more → LineRead h raw line more
unfolding read_line
line_was_read h raw more at line e = by_item (item_in h raw (next_section h raw) line) refl e
  where
    by_item : (found : Option Item) → item_in h raw (next_section h raw) line ≡ found → take_item h raw at (malformed (next_section h raw) at line) found ≡ Ok more → LineRead h raw line more
    by_item None is e = absurd cc
    by_item (Some item) is e =
        let checked = unless_ok (line_checks h raw at item) (Ok (with_item raw item)) more e in
        record {
          item = item;
          spelt = is;
          fits = fits_where_passes h raw at item (has_lines h raw (next_section h raw) line item is) checked.0;
          grown = same_ok (with_item raw item) more checked.1;
        }
