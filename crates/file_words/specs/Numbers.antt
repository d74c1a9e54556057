-- A number of a text, as 64 bits hold it.
use Rattle.std.specs.Prelude.{ℕ, ◌-◌, ◌^◌, List, Option, Some, None, min, if◌then◌else◌}
use Rattle.file_words.specs.Lines.{is_number, digits_value}

-- the number, or the greatest of 64 bits if it is greater
abbrev pub clamped : ℕ → ℕ
clamped n = min n (2 ^ 64 - 1)

-- the number that digits spell
abbrev pub number_of : List ℕ → Option ℕ
number_of digits = if is_number digits then Some (clamped (digits_value digits)) else None
