-- What one line says, by the section in which it stands.
use Rattle.std.specs.Prelude.{ℕ, ◌==◌, ◌&&◌, Bool, false, not, List, [], ◌∷◌, ◌++◌, map, Option, Some, None, if◌then◌else◌}
use Rattle.std.specs.Char.{is_ascii_digit}
use Rattle.std.specs.Str.{byte}
use Rattle.std.specs.Option.{option_and_then, option_map}
use Rattle.file_words.specs.Lines.{is_number, digits_value, numbers_of}
use Rattle.ascii_file.specs.declared.raw.RawLatch.{RawLatch}
use Rattle.ascii_file.specs.declared.raw.RawGate.{RawGate}
use Rattle.ascii_file.specs.declared.raw.Section.{Section}
use Rattle.ascii_file.specs.declared.raw.Section.TheVariants.{Inputs, Latches, Safety, Sizes, Liveness, Gates, Symbols}
use Rattle.ascii_file.specs.declared.raw.SymbolKind.{SymbolKind}
use Rattle.ascii_file.specs.declared.raw.SymbolKind.TheVariants.{Input, Latch, Output, Bad, Constraint, Justice, Fairness}
use Rattle.ascii_file.specs.Raw.{Raw, RawSymbol}

-- what a line of each section says
pub data Item : Type 0 where
  InputItem : (lit : ℕ) → Item
  LatchItem : (latch : RawLatch) → Item
  SafetyItem : (lit : ℕ) → Item
  SizeItem : (size : ℕ) → Item
  LivenessItem : (lit : ℕ) → Item
  GateItem : (gate : RawGate) → Item
  SymbolItem : (symbol : RawSymbol) → Item

-- the section of a file that has such an item
abbrev pub section_of : Item → Section
section_of (InputItem lit) = Inputs
section_of (LatchItem latch) = Latches
section_of (SafetyItem lit) = Safety
section_of (SizeItem size) = Sizes
section_of (LivenessItem lit) = Liveness
section_of (GateItem gate) = Gates
section_of (SymbolItem symbol) = Symbols

-- all items, section by section
abbrev pub items_of : Raw → List Item
items_of raw =
    map InputItem raw.inputs ++ (map LatchItem raw.latches ++ (map SafetyItem raw.safety ++ (map SizeItem raw.sizes
    ++ (map LivenessItem raw.liveness ++ (map GateItem raw.gates ++ map SymbolItem raw.symbols)))))

-- a line with one number, two or three, or three
abbrev pub single : (ℕ → Item) → List ℕ → Option Item
single item (n ∷ []) = Some (item n)
single item _ = None

-- a latch of two numbers, or of three with its reset; nothing of others
abbrev pub latch_in : List ℕ → Option Item
latch_in (current ∷ next ∷ []) = Some (LatchItem (record { current = current; next = next; reset = 0 }))
latch_in (current ∷ next ∷ reset ∷ []) = Some (LatchItem (record { current = current; next = next; reset = reset }))
latch_in _ = None

abbrev pub gate_in : List ℕ → Option Item
gate_in (lhs ∷ rhs0 ∷ rhs1 ∷ []) = Some (GateItem (record { lhs = lhs; rhs0 = rhs0; rhs1 = rhs1 }))
gate_in _ = None

-- the kind that a symbol's first byte stands for
abbrev pub kind_of : ℕ → Option SymbolKind
kind_of letter =
    if letter == byte "i" then Some Input else (if letter == byte "l" then Some Latch else (if letter == byte "o" then Some Output else (if letter == byte "b" then Some Bad
    else (if letter == byte "c" then Some Constraint else (if letter == byte "j" then Some Justice else (if letter == byte "f" then Some Fairness else None))))))

-- what stands before the first space, and what after it
abbrev pub cut_at_space : List ℕ → Option (List ℕ × List ℕ)
cut_at_space [] = None
cut_at_space (b ∷ bytes) = if b == 32 then Some ([], bytes) else option_map (λ cut. (b ∷ cut.0, cut.1)) (cut_at_space bytes)

-- a position and a name; a name is any bytes, and may be empty
abbrev pub symbol_in : SymbolKind → List ℕ × List ℕ → Option Item
symbol_in kind (position, name) = if is_number position then Some (SymbolItem (record { kind = kind; position = digits_value position; name = name })) else None

abbrev pub symbol_of : List ℕ → Option Item
symbol_of [] = None
symbol_of (letter ∷ bytes) = option_and_then (λ kind. option_and_then (symbol_in kind) (cut_at_space bytes)) (kind_of letter)

-- the item that a line of a section spells
unfoldable pub item_of : Section → List ℕ → Option Item
item_of Inputs line = option_and_then (single InputItem) (numbers_of line)
item_of Latches line = option_and_then latch_in (numbers_of line)
item_of Safety line = option_and_then (single SafetyItem) (numbers_of line)
item_of Sizes line = option_and_then (single SizeItem) (numbers_of line)
item_of Liveness line = option_and_then (single LivenessItem) (numbers_of line)
item_of Gates line = option_and_then gate_in (numbers_of line)
item_of Symbols line = symbol_of line

-- whether a line begins the comment: c alone, or before anything but a digit
unfoldable pub begins_comment : List ℕ → Bool
begins_comment [] = false
begins_comment (letter ∷ []) = letter == byte "c"
begins_comment (letter ∷ second ∷ bytes) = (letter == byte "c") && not (is_ascii_digit second)
