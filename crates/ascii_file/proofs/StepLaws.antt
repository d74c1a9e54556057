-- One line more.
use Rattle.std.proofs.Common.{ℕ, ◌+◌, ◌≡◌, List, [], ◌∷◌, length, Option, Some, None, Result, Ok, Err, Bool, true, false, cond, nat_eq, not, ◌&&◌, refl, sym, ap, ◌∙◌}
use Rattle.std.specs.Char.{is_ascii_digit}
use Rattle.std.specs.List.{list_all}
use Rattle.std.specs.Option.{option_and_then, option_map}
use Rattle.std.proofs.lemmas.Bool.{and_left, and_right, and_parts, not_from_true, cond-false}
use Rattle.file_words.specs.declared.fault.ReadError.{ReadError}
use Rattle.file_words.specs.Lines.{is_number, digits_value, numbers_of}
use Rattle.file_words.specs.Answering.{◌>>=◌}
use Rattle.ascii_file.specs.declared.header.Header.{Header}
use Rattle.ascii_file.specs.declared.raw.Section.{Section}
use Rattle.ascii_file.specs.declared.raw.Section.TheVariants.{Inputs, Latches, Safety, Sizes, Liveness, Gates, Symbols}
use Rattle.ascii_file.specs.declared.raw.SymbolKind.{SymbolKind}
use Rattle.ascii_file.specs.Raw.{Raw}
use Rattle.ascii_file.specs.Items.{Item, InputItem, LatchItem, SafetyItem, SizeItem, LivenessItem, GateItem, SymbolItem, section_of, single, latch_in, gate_in, kind_of, cut_at_space, symbol_in, symbol_of, item_of, begins_comment}
use Rattle.ascii_file.specs.Reading.{checks, next_section, with_item, malformed, take_item, read_line, InItems, InComment, is_symbols, is_complete, take_line}
use Rattle.ascii_file.specs.Files.{Spells}
use Rattle.ascii_file.proofs.CheckLaws.{unless_ok, unless_passes, same_ok, Fits, passes_where_fits, fits_where_passes}

-- the value of a step that did not fail
pub bind_ok : {A B : Type 0} (r : Result A ReadError) (f : A → Result B ReadError) (y : B) → (r >>= f) ≡ Ok y → (x : A) × (r ≡ Ok x) × (f x ≡ Ok y)
bind_ok (Ok x) f y e = (x, refl, e)
bind_ok (Err d) f y e = absurd cc

-- ---- the item of a line is of the line's section

-- an item that is found is one
pub same_some : (a b : Item) → ◌≡◌ {A = Option Item} (Some a) (Some b) → a ≡ b
same_some a b e = cc

from_single : (make : ℕ → Item) (section : Section) → ((n : ℕ) → section_of (make n) ≡ section) → (found : Option (List ℕ)) (item : Item) → option_and_then (single make) found ≡ Some item → section_of item ≡ section
from_single make section is None item e = absurd cc
from_single make section is (Some []) item e = absurd cc
from_single make section is (Some (n ∷ [])) item e = ap section_of (sym (same_some (make n) item e)) ∙ is n
from_single make section is (Some (n ∷ m ∷ ns)) item e = absurd cc

from_latch : (found : Option (List ℕ)) (item : Item) → option_and_then latch_in found ≡ Some item → section_of item ≡ Latches
from_latch None item e = absurd cc
from_latch (Some []) item e = absurd cc
from_latch (Some (a ∷ [])) item e = absurd cc
from_latch (Some (a ∷ b ∷ [])) item e = ap section_of (sym (same_some (LatchItem (record { current = a; next = b; reset = 0 })) item e))
from_latch (Some (a ∷ b ∷ c ∷ [])) item e = ap section_of (sym (same_some (LatchItem (record { current = a; next = b; reset = c })) item e))
from_latch (Some (a ∷ b ∷ c ∷ d ∷ ns)) item e = absurd cc

from_gate : (found : Option (List ℕ)) (item : Item) → option_and_then gate_in found ≡ Some item → section_of item ≡ Gates
from_gate None item e = absurd cc
from_gate (Some []) item e = absurd cc
from_gate (Some (a ∷ [])) item e = absurd cc
from_gate (Some (a ∷ b ∷ [])) item e = absurd cc
from_gate (Some (a ∷ b ∷ c ∷ [])) item e = ap section_of (sym (same_some (GateItem (record { lhs = a; rhs0 = b; rhs1 = c })) item e))
from_gate (Some (a ∷ b ∷ c ∷ d ∷ ns)) item e = absurd cc

-- what a symbol's line is made of
record IsSymbol (letter : ℕ) (bytes : List ℕ) (item : Item) : Type 0 where
  kind : SymbolKind
  cut : List ℕ × List ℕ
  letter_is : kind_of letter ≡ Some kind
  cut_is : cut_at_space bytes ≡ Some cut
  item_is : symbol_in kind cut ≡ Some item

symbol_parts : (letter : ℕ) (bytes : List ℕ) (item : Item) → symbol_of (letter ∷ bytes) ≡ Some item → IsSymbol letter bytes item
symbol_parts letter bytes item e = by_kind (kind_of letter) refl e
  where
    by_cut : (kind : SymbolKind) → kind_of letter ≡ Some kind → (found : Option (List ℕ × List ℕ)) → cut_at_space bytes ≡ found → option_and_then (symbol_in kind) found ≡ Some item → IsSymbol letter bytes item
    by_cut kind is None cut_is e = absurd cc
    by_cut kind is (Some cut) cut_is e = record { kind = kind; cut = cut; letter_is = is; cut_is = cut_is; item_is = e }

    by_kind : (found : Option SymbolKind) → kind_of letter ≡ found → option_and_then (λ kind. option_and_then (symbol_in kind) (cut_at_space bytes)) found ≡ Some item → IsSymbol letter bytes item
    by_kind None is e = absurd cc
    by_kind (Some kind) is e = by_cut kind is (cut_at_space bytes) refl e

from_symbol : (line : List ℕ) (item : Item) → symbol_of line ≡ Some item → section_of item ≡ Symbols
from_symbol [] item e = absurd cc
from_symbol (letter ∷ bytes) item e = let parts = symbol_parts letter bytes item e in by_test parts.kind parts.cut (is_number parts.cut.0) parts.item_is
  where
    by_test : (kind : SymbolKind) (cut : List ℕ × List ℕ) (test : Bool) → cond test (Some (SymbolItem (record { kind = kind; position = digits_value cut.0; name = cut.1 }))) None ≡ Some item → section_of item ≡ Symbols
    by_test kind cut true e = ap section_of (sym (same_some _ item e))
    by_test kind cut false e = absurd cc

-- an item that a line spells in a section is of that section
pub section_is : (section : Section) (line : List ℕ) (item : Item) → item_of section line ≡ Some item → section_of item ≡ section
unfolding item_of
section_is Inputs line item e = from_single InputItem Inputs (λ n. refl) (numbers_of line) item e
section_is Latches line item e = from_latch (numbers_of line) item e
section_is Safety line item e = from_single SafetyItem Safety (λ n. refl) (numbers_of line) item e
section_is Sizes line item e = from_single SizeItem Sizes (λ n. refl) (numbers_of line) item e
section_is Liveness line item e = from_single LivenessItem Liveness (λ n. refl) (numbers_of line) item e
section_is Gates line item e = from_gate (numbers_of line) item e
section_is Symbols line item e = from_symbol line item e

-- ---- a symbol begins no comment

number_first : (b : ℕ) (bytes : List ℕ) → is_number (b ∷ bytes) ≡ true → is_ascii_digit b ≡ true
number_first b bytes e = (and_parts (is_ascii_digit b) (list_all is_ascii_digit bytes) (and_parts (not (nat_eq (length (b ∷ bytes)) 0)) (list_all is_ascii_digit (b ∷ bytes)) e).1).0

was_number : (kind : SymbolKind) (cut : List ℕ × List ℕ) (item : Item) → symbol_in kind cut ≡ Some item → is_number cut.0 ≡ true
was_number kind cut item e = by_test (is_number cut.0) e
  where
    by_test : (test : Bool) → cond test (Some (SymbolItem (record { kind = kind; position = digits_value cut.0; name = cut.1 }))) None ≡ Some item → test ≡ true
    by_test true e = refl
    by_test false e = absurd cc

-- the first byte of a position
position_first : (kind : SymbolKind) (second : ℕ) (bytes : List ℕ) (cut : List ℕ × List ℕ) (item : Item) → cut_at_space (second ∷ bytes) ≡ Some cut → symbol_in kind cut ≡ Some item → is_ascii_digit second ≡ true
position_first kind second bytes cut item cut_is e = by_space (nat_eq second 32) cut_is
  where
    by_rest : (found : Option (List ℕ × List ℕ)) → option_map (λ (c : List ℕ × List ℕ). (second ∷ c.0, c.1)) found ≡ Some cut → is_ascii_digit second ≡ true
    by_rest None same = absurd cc
    by_rest (Some (front, name)) same =
        let is : cut ≡ (second ∷ front, name) = cc in
        number_first second front (ap (λ (c : List ℕ × List ℕ). is_number c.0) (sym is) ∙ was_number kind cut item e)

    by_space : (test : Bool) → cond test (Some ([], bytes)) (option_map (λ (c : List ℕ × List ℕ). (second ∷ c.0, c.1)) (cut_at_space bytes)) ≡ Some cut → is_ascii_digit second ≡ true
    by_space true same = let is : cut ≡ ([], bytes) = cc in absurd (no_number (ap (λ (c : List ℕ × List ℕ). is_number c.0) (sym is) ∙ was_number kind cut item e))
      where
        no_number : false ≡ true → ⊥
        no_number same = cc
    by_space false same = by_rest (cut_at_space bytes) same

-- a line that spells a symbol begins no comment
pub no_comment : (line : List ℕ) (item : Item) → symbol_of line ≡ Some item → begins_comment line ≡ false
unfolding begins_comment
no_comment [] item e = refl
no_comment (letter ∷ []) item e = let parts = symbol_parts letter [] item e in absurd (none parts.cut parts.cut_is)
  where
    none : (cut : List ℕ × List ℕ) → ◌≡◌ {A = Option (List ℕ × List ℕ)} None (Some cut) → ⊥
    none cut e = cc
no_comment (letter ∷ second ∷ bytes) item e =
    let parts = symbol_parts letter (second ∷ bytes) item e in
    and_right (nat_eq letter 99) _ (not_from_true (is_ascii_digit second) (position_first parts.kind second bytes parts.cut item parts.cut_is parts.item_is))

-- ---- the step

-- a line that spells an item of the next section which fits
pub line_read : (h : Header) (raw : Raw) (at : ℕ) (line : List ℕ) (item : Item) → next_section h raw ≡ section_of item → Spells line item → Fits h raw item → read_line h raw at line ≡ Ok (with_item raw item)
unfolding read_line
line_read h raw at line item next spelt fits =
    ap (take_item h raw at (malformed (next_section h raw) at line)) (ap (λ (s : Section). item_of s line) next ∙ spelt)
    ∙ unless_passes (checks h raw at item) (Ok (with_item raw item)) (passes_where_fits h raw at item fits)

-- what was read of a line
pub record LineRead (h : Header) (raw : Raw) (line : List ℕ) (more : Raw) : Type 0 where
  -- the item
  pub item : Item
  -- its section is the next one
  pub next : next_section h raw ≡ section_of item
  -- the line spells it
  pub spelt : Spells line item
  -- it fits after what has been read
  pub fits : Fits h raw item
  -- with it the raw circuit is the one that was read
  pub grown : with_item raw item ≡ more

-- a line that is read spells an item of the next section, which fits
pub line_was_read : (h : Header) (raw more : Raw) (at : ℕ) (line : List ℕ) → read_line h raw at line ≡ Ok more → LineRead h raw line more
unfolding read_line
line_was_read h raw more at line e = by_item (item_of (next_section h raw) line) refl e
  where
    by_item : (found : Option Item) → item_of (next_section h raw) line ≡ found → take_item h raw at (malformed (next_section h raw) at line) found ≡ Ok more → LineRead h raw line more
    by_item None is e = absurd cc
    by_item (Some item) is e =
        let checked = unless_ok (checks h raw at item) (Ok (with_item raw item)) more e in
        let section = section_is (next_section h raw) line item is in
        record {
          item = item;
          next = sym section;
          spelt = ap (λ (s : Section). item_of s line) section ∙ is;
          fits = fits_where_passes h raw at item checked.0;
          grown = same_ok (with_item raw item) more checked.1;
        }

-- the section of symbols is the one that passes their test
pub symbols_are : (section : Section) → is_symbols section ≡ true → section ≡ Symbols
symbols_are Inputs e = absurd cc
symbols_are Latches e = absurd cc
symbols_are Safety e = absurd cc
symbols_are Sizes e = absurd cc
symbols_are Liveness e = absurd cc
symbols_are Gates e = absurd cc
symbols_are Symbols e = refl

-- the line of an item begins no comment
item_no_comment : (section : Section) (line : List ℕ) (item : Item) → section ≡ section_of item → Spells line item → (is_symbols section && begins_comment line) ≡ false
unfolding item_of
item_no_comment section line (InputItem lit) is spelt = and_left _ _ (ap is_symbols is)
item_no_comment section line (LatchItem latch) is spelt = and_left _ _ (ap is_symbols is)
item_no_comment section line (SafetyItem lit) is spelt = and_left _ _ (ap is_symbols is)
item_no_comment section line (SizeItem size) is spelt = and_left _ _ (ap is_symbols is)
item_no_comment section line (LivenessItem lit) is spelt = and_left _ _ (ap is_symbols is)
item_no_comment section line (GateItem gate) is spelt = and_left _ _ (ap is_symbols is)
item_no_comment section line (SymbolItem symbol) is spelt = and_right (is_symbols section) _ (no_comment line (SymbolItem symbol) spelt)

-- a line that spells an item of the next section which fits leads on to the next line
pub item_taken : (h : Header) (raw : Raw) (at : ℕ) (line : List ℕ) (item : Item) → next_section h raw ≡ section_of item → Spells line item → Fits h raw item
    → take_line (InItems h raw at) line ≡ Ok (InItems h (with_item raw item) (at + length line + 1))
item_taken h raw at line item next spelt fits =
    cond-false (is_complete h raw && begins_comment line) (Ok (InComment h raw)) (read_line h raw at line >>= λ more. Ok (InItems h more (at + length line + 1)))
    (item_no_comment (next_section h raw) line item next spelt)
    ∙ ap (λ (read : Result Raw ReadError). read >>= λ more. Ok (InItems h more (at + length line + 1))) (line_read h raw at line item next spelt fits)
