-- The items of a binary file. Inputs aren't listed, and latches and gates have their variables by
-- their positions.
use Rattle.std.specs.Prelude.{ℕ, ◌+◌, ◌*◌, ◌==◌, List, [], ◌∷◌, length, Option, Some, None, if◌then◌else◌}
use Rattle.std.specs.Option.{option_and_then}
use Rattle.file_words.specs.Lines.{numbers_of}
use Rattle.ascii_file.specs.declared.header.Header.{Header}
use Rattle.ascii_file.specs.declared.raw.Section.{Section}
use Rattle.ascii_file.specs.declared.raw.Section.TheVariants.{Inputs, Latches, Gates}
use Rattle.ascii_file.specs.Raw.{Raw}
use Rattle.ascii_file.specs.Items.{Item, LatchItem, item_of}
use Rattle.ascii_file.specs.Reading as ascii

-- the first section that isn't full; that of inputs has no items
unfoldable pub next_section : Header → Raw → Section
next_section h raw = ascii.next_section (record h { inputs = 0 }) raw

-- the literal of the next latch, and that of the next gate
abbrev pub next_latch : Header → Raw → ℕ
next_latch h raw = 2 * (h.inputs + 1 + length raw.latches)

-- the literal `2*(I+L+1+k)` of gate k, which a file doesn't list
abbrev pub next_gate : Header → Raw → ℕ
next_gate h raw = 2 * (h.inputs + h.latches + 1 + length raw.gates)

-- a latch's line: the next literal, and the reset, which is 0 if it is left out
abbrev pub latch_in : ℕ → List ℕ → Option Item
latch_in current (next ∷ []) = Some (LatchItem (record { current = current; next = next; reset = 0 }))
latch_in current (next ∷ reset ∷ []) = Some (LatchItem (record { current = current; next = next; reset = reset }))
latch_in current _ = None

-- the item that the next line spells; inputs and gates have no lines
abbrev pub item_in : Header → Raw → Section → List ℕ → Option Item
item_in h raw Inputs line = None
item_in h raw Gates line = None
item_in h raw Latches line = option_and_then (latch_in (next_latch h raw)) (numbers_of line)
item_in h raw section line = item_of section line

-- the first line of bytes, and what follows its newline
unfoldable pub first_line : List ℕ → List ℕ
first_line [] = []
first_line (b ∷ bytes) = if b == 10 then [] else b ∷ first_line bytes

unfoldable pub after_line : List ℕ → List ℕ
after_line [] = []
after_line (b ∷ bytes) = if b == 10 then bytes else after_line bytes
