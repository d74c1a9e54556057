-- The numbers of the errors.
use Rattle.std.specs.Prelude.{ℕ}
use Rattle.counted_io.specs.declared.reading.ReadAllError.{ReadAllError}
use Rattle.counted_io.specs.declared.reading.ReadAllError.TheVariants.{NoMemory, Device}

-- the number of an error
abbrev pub code_of : ReadAllError → ℕ
code_of NoMemory = 1
code_of Device = 2
