-- The faults: their numbers, names and offsets.
use Rattle.std.specs.Prelude.{ℕ, List, Option, Some, None, codes}
use Rattle.certificate_files.specs.declared.fault.CertError.{CertError}
use Rattle.certificate_files.specs.declared.fault.CertError.TheVariants.{BadHeader, BadLine, TooLarge, Truncated, NoMemory}

-- the number of a fault
abbrev pub code_of : CertError → ℕ
code_of (BadHeader at) = 1
code_of (BadLine at) = 2
code_of (TooLarge at) = 3
code_of (Truncated at) = 4
code_of NoMemory = 5

-- the name of a fault
abbrev pub name_of : CertError → List ℕ
name_of (BadHeader at) = codes "BadHeader"
name_of (BadLine at) = codes "BadLine"
name_of (TooLarge at) = codes "TooLarge"
name_of (Truncated at) = codes "Truncated"
name_of NoMemory = codes "NoMemory"

-- the offset of what is at fault, if it has one
abbrev pub offset_of : CertError → Option ℕ
offset_of (BadHeader at) = Some at
offset_of (BadLine at) = Some at
offset_of (TooLarge at) = Some at
offset_of (Truncated at) = Some at
offset_of NoMemory = None
