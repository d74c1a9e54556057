-- The first line, of which some bytes have come.
use Rattle.std.specs.Prelude.{ℕ, ◌-◌, nat_eq, List, drop, Option, None, if◌then◌else◌}
use Rattle.std.specs.List.{starts_with}
use Rattle.ascii_file.specs.declared.parts.header_line.HeaderLine.{HeaderLine}
use Rattle.ascii_file.specs.parts.Rows.{row_of}
use Rattle.ascii_file.specs.parts.Open.{numbers_with}

-- the numbers after the four letters, as 32 bits hold them
unfoldable pub header_row : List ℕ → List ℕ → Option (List ℕ)
header_row letters line = if starts_with nat_eq line letters then row_of (drop 4 line) else None

-- the header of the line, if these bytes are the rest of it
abbrev pub header_with : HeaderLine → List ℕ → Option (List ℕ)
header_with h rest = if starts_with nat_eq rest (drop h.count h.letters) then numbers_with h.line (drop (4 - h.count) rest) else None
