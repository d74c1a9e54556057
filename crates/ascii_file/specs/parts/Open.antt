-- A line of which some bytes have come.
use Rattle.std.specs.Prelude.{ℕ, List, take, Option, None, if◌then◌else◌}
use Rattle.ascii_file.specs.declared.parts.numbers.NumberLine.{NumberLine}
use Rattle.ascii_file.specs.parts.Rows.{clamped, read_on, finished}

-- the numbers that have ended, and those that come after them
abbrev pub ended : NumberLine → Option (List ℕ) → Option (List ℕ)
ended line more = if line.is_spelt then finished (take line.len line.numbers) more else None

-- the numbers of the line, if these bytes are the rest of it
abbrev pub numbers_with : NumberLine → List ℕ → Option (List ℕ)
numbers_with line rest = ended line (read_on clamped line.number rest)
