-- The line that has the nearest name, as a terminal is shown it.
use Rattle.std.specs.Prelude.{ℕ, Bool, List, [], ◌∷◌, ◌++◌, codes, if◌then◌else◌}
use Rattle.std.specs.List.{flat_map}
use Rattle.circuit_files.specs.pages.Lines.{printable}

-- one column for a byte of a name, which comes from the file and may be any
abbrev pub shown_byte : ℕ → List ℕ
shown_byte b = printable b ∷ []

-- what the line begins with, by whether names of all kinds were looked at, or those of latches
abbrev pub lead : Bool → List ℕ
lead of_all = if of_all then codes "the nearest name is " else codes "the nearest name of a latch is "

-- the line that a terminal is told of the nearest name, of a latch or of anything
unfoldable pub nearest_line : Bool → List ℕ → List ℕ
nearest_line of_all name = lead of_all ++ flat_map shown_byte name ++ 10 ∷ []
