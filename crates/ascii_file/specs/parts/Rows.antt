-- The numbers of a line as 32 bits hold them.
use Rattle.std.specs.Prelude.{ℕ, ◌+◌, ◌-◌, ◌*◌, ◌^◌, ◌==◌, List, [], ◌∷◌, ◌++◌, length, map, min, nat_le, Option, Some, None, unwrap_or, if◌then◌else◌}
use Rattle.std.specs.Char.{is_ascii_digit}
use Rattle.std.specs.Option.{option_and_then}
use Rattle.file_words.specs.Lines.{numbers_of}

-- the number, or the greatest of 32 bits if it is greater
abbrev pub clamped : ℕ → ℕ
clamped n = min n (2 ^ 32 - 1)

-- the numbers, if there are at most nine
abbrev pub up_to_nine : List ℕ → Option (List ℕ)
up_to_nine ns = if nat_le (length ns) 9 then Some ns else None

-- the numbers of a line, if there are at most nine
unfoldable pub row_of : List ℕ → Option (List ℕ)
row_of line = option_and_then (λ ns. up_to_nine (map clamped ns)) (numbers_of line)

-- ---- byte by byte

-- one number more at the front, if it is there
abbrev pub in_front : Option ℕ → Option (List ℕ) → Option (List ℕ)
in_front None rest = None
in_front (Some n) None = None
in_front (Some n) (Some ns) = Some (n ∷ ns)

-- a number begun, with one more digit
abbrev pub next_digit : Option ℕ → ℕ → ℕ
next_digit number b = 10 * unwrap_or number 0 + (b - 48)

-- the numbers that bytes spell after a number begun, each cut to size
unfoldable pub read_on : (ℕ → ℕ) → Option ℕ → List ℕ → Option (List ℕ)
read_on cut number [] = in_front number (Some [])
read_on cut number (b ∷ bytes) = if b == 32 then in_front number (read_on cut None bytes) else (if is_ascii_digit b then read_on cut (Some (cut (next_digit number b))) bytes else None)

-- numbers, and those that are read after them
abbrev pub finished : List ℕ → Option (List ℕ) → Option (List ℕ)
finished ns None = None
finished ns (Some more) = up_to_nine (ns ++ more)
