-- The faults: their numbers, names and offsets.
use Rattle.std.specs.Prelude.{ℕ, List, Option, Some, None, codes}
use Rattle.circuit_files.specs.declared.fault.ListError.{ListError}
use Rattle.circuit_files.specs.declared.fault.ListError.TheVariants.{BadLine, TooLarge, NoMemory}

-- the number of a fault
abbrev pub code_of : ListError → ℕ
code_of (BadLine at) = 1
code_of (TooLarge at) = 2
code_of NoMemory = 3

-- the name of a fault
abbrev pub name_of : ListError → List ℕ
name_of (BadLine at) = codes "BadLine"
name_of (TooLarge at) = codes "TooLarge"
name_of NoMemory = codes "NoMemory"

-- the offset of what is at fault, if it has one
abbrev pub offset_of : ListError → Option ℕ
offset_of (BadLine at) = Some at
offset_of (TooLarge at) = Some at
offset_of NoMemory = None
