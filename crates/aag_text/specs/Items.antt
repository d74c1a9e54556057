-- The item of a line, by its numbers.
use Rattle.std.specs.Prelude.{ℕ, List, [], ◌∷◌, Option, Some, None}
use Rattle.std.specs.Option.{option_map}
use Rattle.ascii_file.specs.declared.raw.RawLatch.{RawLatch}
use Rattle.ascii_file.specs.declared.raw.RawGate.{RawGate}
use Rattle.ascii_file.specs.declared.raw.Section.{Section}
use Rattle.ascii_file.specs.declared.raw.Section.TheVariants.{Inputs, Latches, Safety, Sizes, Liveness, Gates, Symbols}
use Rattle.ascii_file.specs.Items.{Item, InputItem, LatchItem, SafetyItem, SizeItem, LivenessItem, GateItem}

-- the only number
abbrev pub only : List ℕ → Option ℕ
only (n ∷ []) = Some n
only _ = None

-- the latch of two or three numbers
abbrev pub latch_of_numbers : List ℕ → Option RawLatch
latch_of_numbers (current ∷ next ∷ []) = Some (record { current = current; next = next; reset = 0 })
latch_of_numbers (current ∷ next ∷ reset ∷ []) = Some (record { current = current; next = next; reset = reset })
latch_of_numbers _ = None

-- the gate of three numbers
abbrev pub gate_of_numbers : List ℕ → Option RawGate
gate_of_numbers (lhs ∷ rhs0 ∷ rhs1 ∷ []) = Some (record { lhs = lhs; rhs0 = rhs0; rhs1 = rhs1 })
gate_of_numbers _ = None

-- the item that the numbers of a line are in a section
abbrev pub item_of_numbers : Section → List ℕ → Option Item
item_of_numbers Inputs ns = option_map InputItem (only ns)
item_of_numbers Latches ns = option_map LatchItem (latch_of_numbers ns)
item_of_numbers Safety ns = option_map SafetyItem (only ns)
item_of_numbers Sizes ns = option_map SizeItem (only ns)
item_of_numbers Liveness ns = option_map LivenessItem (only ns)
item_of_numbers Gates ns = option_map GateItem (gate_of_numbers ns)
item_of_numbers Symbols ns = None
