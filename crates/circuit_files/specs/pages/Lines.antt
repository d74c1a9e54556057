-- A line of a file, as a terminal shows it.
use Rattle.std.specs.Prelude.{ℕ, ◌==◌, nat_lt, ◌||◌, List, [], ◌∷◌, ◌++◌, length, map, take, min, position, unwrap_or, if◌then◌else◌}

-- how many bytes stand before the first newline
abbrev pub line_length : List ℕ → ℕ
line_length bytes = unwrap_or (position (λ b. b == 10) bytes) (length bytes)

-- printable ASCII stands for itself, any other byte is a question mark
abbrev pub printable : ℕ → ℕ
printable b = if nat_lt b 32 || nat_lt 126 b then 63 else b

-- the line that bytes begin with, 60 bytes at most
unfoldable pub shown : List ℕ → List ℕ
shown bytes = map printable (take (min (line_length bytes) 60) bytes) ++ 10 ∷ []
