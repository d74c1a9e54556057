-- A text that is read line by line.
use Rattle.std.specs.Prelude.{ℕ, ◌+◌, List, [], ◌∷◌, length, Result, Ok}
use Rattle.file_words.specs.Answering.{◌>>=◌}

-- what the lines from an offset on make of what was read before them, one after another, or the
-- first fault
unfoldable pub read_lines : {S E : Type 0} → (ℕ → S → List ℕ → Result S E) → ℕ → S → List (List ℕ) → Result S E
read_lines read_line at read [] = Ok read
read_lines read_line at read (line ∷ rest) = read_line at read line >>= λ more. read_lines read_line (at + length line + 1) more rest
