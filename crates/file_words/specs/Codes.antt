-- The faults: their numbers, names and offsets, whose they are, and those of a reader that was not
-- read to its end.
use Rattle.std.specs.Prelude.{ℕ, Bool, true, false, List, Option, Some, None, codes}
use Rattle.counted_io.specs.declared.reading.ReadAllError.{ReadAllError}
use Rattle.counted_io.specs.declared.reading.ReadAllError.TheVariants as reading
use Rattle.file_words.specs.declared.fault.ReadError.{ReadError}
use Rattle.file_words.specs.declared.fault.ReadError.TheVariants.{BadHeader, TooLarge, MaxIndex, BadLine, BadLiteral, DefinedTwice, Undefined, Cycle, BadReset, BadDelta, Truncated, BadSymbol, Trailing, NoMemory, Device}

-- the number of a fault
abbrev pub code_of : ReadError → ℕ
code_of (BadHeader at) = 1
code_of (TooLarge at) = 2
code_of (MaxIndex at) = 3
code_of (BadLine at) = 4
code_of (BadLiteral at) = 5
code_of (DefinedTwice at) = 6
code_of Undefined = 7
code_of Cycle = 8
code_of (BadReset at) = 9
code_of (BadDelta at) = 10
code_of (Truncated at) = 11
code_of (BadSymbol at) = 12
code_of (Trailing at) = 13
code_of NoMemory = 14
code_of Device = 15

-- the name of a fault
abbrev pub name_of : ReadError → List ℕ
name_of (BadHeader at) = codes "BadHeader"
name_of (TooLarge at) = codes "TooLarge"
name_of (MaxIndex at) = codes "MaxIndex"
name_of (BadLine at) = codes "BadLine"
name_of (BadLiteral at) = codes "BadLiteral"
name_of (DefinedTwice at) = codes "DefinedTwice"
name_of Undefined = codes "Undefined"
name_of Cycle = codes "Cycle"
name_of (BadReset at) = codes "BadReset"
name_of (BadDelta at) = codes "BadDelta"
name_of (Truncated at) = codes "Truncated"
name_of (BadSymbol at) = codes "BadSymbol"
name_of (Trailing at) = codes "Trailing"
name_of NoMemory = codes "NoMemory"
name_of Device = codes "Device"

-- the offset of what is at fault, if it has one
abbrev pub offset_of : ReadError → Option ℕ
offset_of (BadHeader at) = Some at
offset_of (TooLarge at) = Some at
offset_of (MaxIndex at) = Some at
offset_of (BadLine at) = Some at
offset_of (BadLiteral at) = Some at
offset_of (DefinedTwice at) = Some at
offset_of Undefined = None
offset_of Cycle = None
offset_of (BadReset at) = Some at
offset_of (BadDelta at) = Some at
offset_of (Truncated at) = Some at
offset_of (BadSymbol at) = Some at
offset_of (Trailing at) = Some at
offset_of NoMemory = None
offset_of Device = None

-- whether the bytes have the fault: neither memory nor the reader has it
abbrev pub is_fault_of_bytes : ReadError → Bool
is_fault_of_bytes NoMemory = false
is_fault_of_bytes Device = false
is_fault_of_bytes fault = true

-- the fault if a reader wasn't read to its end
abbrev pub fault_of_reading : ReadAllError → ReadError
fault_of_reading reading.NoMemory = NoMemory
fault_of_reading reading.Device = Device
