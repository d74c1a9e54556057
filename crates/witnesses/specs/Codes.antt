-- The faults: their numbers, names and offsets.
use Rattle.std.specs.Prelude.{ℕ, List, Option, Some, None, codes}
use Rattle.witnesses.specs.declared.fault.WitnessError.{WitnessError}
use Rattle.witnesses.specs.declared.fault.WitnessError.TheVariants.{BadHeader, BadLine, Width, NoSuchProperty, Truncated, Trailing, NoMemory}

-- the number of a fault
abbrev pub code_of : WitnessError → ℕ
code_of (BadHeader at) = 1
code_of (BadLine at) = 2
code_of (Width at) = 3
code_of (NoSuchProperty at) = 4
code_of (Truncated at) = 5
code_of (Trailing at) = 6
code_of NoMemory = 7

-- the name of a fault
abbrev pub name_of : WitnessError → List ℕ
name_of (BadHeader at) = codes "BadHeader"
name_of (BadLine at) = codes "BadLine"
name_of (Width at) = codes "Width"
name_of (NoSuchProperty at) = codes "NoSuchProperty"
name_of (Truncated at) = codes "Truncated"
name_of (Trailing at) = codes "Trailing"
name_of NoMemory = codes "NoMemory"

-- the offset of what is at fault, if it has one
abbrev pub offset_of : WitnessError → Option ℕ
offset_of (BadHeader at) = Some at
offset_of (BadLine at) = Some at
offset_of (Width at) = Some at
offset_of (NoSuchProperty at) = Some at
offset_of (Truncated at) = Some at
offset_of (Trailing at) = Some at
offset_of NoMemory = None
