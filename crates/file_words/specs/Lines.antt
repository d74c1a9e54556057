-- Lines, and the numbers of a line.
use Rattle.std.specs.Prelude.{ℕ, ◌+◌, ◌-◌, ◌*◌, ◌==◌, ◌&&◌, Bool, not, List, [], ◌∷◌, length, map, fold, Option, Some, None, if◌then◌else◌}
use Rattle.std.specs.Char.{is_ascii_digit}
use Rattle.std.specs.List.{list_all, starts_with}

-- a byte more in front of the first piece
abbrev pub with_front : ℕ → List (List ℕ) → List (List ℕ)
with_front b [] = (b ∷ []) ∷ []
with_front b (piece ∷ pieces) = (b ∷ piece) ∷ pieces

-- the lines of a text: a line runs up to a newline or to the end, and there is none if no byte is
-- left
unfoldable pub lines : List ℕ → List (List ℕ)
lines [] = []
lines (b ∷ bytes) = if b == 10 then [] ∷ lines bytes else with_front b (lines bytes)

-- what stands between the spaces of a line
unfoldable pub pieces : List ℕ → List (List ℕ)
pieces [] = [] ∷ []
pieces (b ∷ bytes) = if b == 32 then [] ∷ pieces bytes else with_front b (pieces bytes)

-- one or more decimal digits; leading zeros are fine
abbrev pub is_number : List ℕ → Bool
is_number piece = not (length piece == 0) && list_all is_ascii_digit piece

-- the number that decimal digits spell
abbrev pub digits_value : List ℕ → ℕ
digits_value digits = fold (λ value digit. 10 * value + (digit - 48)) 0 digits

-- the numbers of a line, if it is numbers with one space between
unfoldable pub numbers_of : List ℕ → Option (List ℕ)
numbers_of line = if list_all is_number (pieces line) then Some (map digits_value (pieces line)) else None

-- whether a text is this word
abbrev pub is_word : List ℕ → List ℕ → Bool
is_word text word = length word == length text && starts_with (λ a b. a == b) text word
