-- What it means that bytes are a binary file.
use Rattle.std.specs.Prelude.{ℕ, ◌+◌, ◌*◌, ◌^◌, ◌<◌, ◌≤◌, ◌≡◌, ◌≢◌, ◌⊎◌, true, false, List, [], ◌∷◌, ◌++◌, length, Some}
use Rattle.std.specs.List.{list_any, sum}
use Rattle.binary_file.specs.Deltas.{is_delta, delta_value}
use Rattle.ascii_file.specs.declared.header.Header.{Header}
use Rattle.ascii_file.specs.declared.raw.RawGate.{RawGate}
use Rattle.ascii_file.specs.declared.raw.Section.TheVariants.{Gates, Symbols}
use Rattle.ascii_file.specs.Raw.{Raw, nothing_yet, count_of}
use Rattle.ascii_file.specs.Items.{Item, InputItem, LatchItem, SafetyItem, SizeItem, LivenessItem, GateItem, SymbolItem, begins_comment}
use Rattle.ascii_file.specs.Reading.{with_item, is_of_same}
use Rattle.ascii_file.specs.Files.{HasReset}
use Rattle.binary_file.specs.Headers.{header_of, IsHeaderWithin}
use Rattle.binary_file.specs.Items.{next_section, next_gate, item_in, first_line, after_line}

-- a literal within the range of the header
abbrev pub IsWithin : Header → ℕ → Type 0
IsWithin h lit = lit ≤ 2 * h.greatest + 1

-- what holds of an item on a line, after the items of the raw circuit
abbrev pub Fits : Header → Raw → Item → Type 0
Fits h raw (InputItem lit) = ⊥
Fits h raw (LatchItem latch) = IsWithin h latch.next × HasReset latch
Fits h raw (SafetyItem lit) = IsWithin h lit
Fits h raw (SizeItem size) = sum raw.sizes + size ≤ 2 ^ 24
Fits h raw (LivenessItem lit) = IsWithin h lit
Fits h raw (GateItem gate) = ⊥
Fits h raw (SymbolItem symbol) = (symbol.position < count_of h symbol.kind) × (list_any (is_of_same symbol) raw.symbols ≡ false)

-- the bytes begin with the line of an item
pub record IsLine (h : Header) (raw : Raw) (item : Item) (bytes rest : List ℕ) : Type 0 where
  pub there : bytes ≢ []
  pub spelt : item_in h raw (next_section h raw) (first_line bytes) ≡ Some item
  pub fits : Fits h raw item
  pub after : after_line bytes ≡ rest

-- a delta of at most five bytes
abbrev pub IsDelta : List ℕ → Type 0
IsDelta delta = (is_delta delta ≡ true) × (length delta ≤ 5)

-- the bytes begin with the deltas of a gate
pub record IsGate (h : Header) (raw : Raw) (gate : RawGate) (bytes rest : List ℕ) : Type 0 where
  pub here : next_section h raw ≡ Gates
  pub first : List ℕ
  pub second : List ℕ
  pub bytes_are : bytes ≡ first ++ (second ++ rest)
  pub first_form : IsDelta first
  pub second_form : IsDelta second
  pub lhs : gate.lhs ≡ next_gate h raw
  pub falls : gate.rhs0 < gate.lhs
  pub first_value : gate.rhs0 + delta_value first ≡ gate.lhs
  pub second_value : gate.rhs1 + delta_value second ≡ gate.rhs0

-- how the next item stands in the bytes
abbrev pub IsItem : Header → Raw → Item → List ℕ → List ℕ → Type 0
IsItem h raw (GateItem gate) bytes rest = IsGate h raw gate bytes rest
IsItem h raw item bytes rest = IsLine h raw item bytes rest

-- the bytes are the missing items, one after the other, each of the first section that isn't full,
-- and then nothing or a comment
abbrev pub AreItems : Header → Raw → List Item → List ℕ → Type 0
AreItems h raw [] bytes = (next_section h raw ≡ Symbols) × ((bytes ≡ []) ⊎ (begins_comment (first_line bytes) ≡ true))
AreItems h raw (item ∷ items) bytes = (rest : List ℕ) × IsItem h raw item bytes rest × AreItems h (with_item raw item) items rest

abbrev pub with_items : Raw → List Item → Raw
with_items raw [] = raw
with_items raw (item ∷ items) = with_items (with_item raw item) items

-- the bytes are a binary file of the raw circuit
pub record IsBinaryFile (bytes : List ℕ) (h : Header) (raw : Raw) : Type 0 where
  pub header : header_of (first_line bytes) ≡ Some h
  pub within : IsHeaderWithin h
  pub items : List Item
  pub spelt : AreItems h nothing_yet items (after_line bytes)
  pub all : with_items nothing_yet items ≡ raw
