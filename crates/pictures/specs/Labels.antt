-- Names as they stand in a quoted label.
use Rattle.std.specs.Prelude.{ℕ, ◌+◌, ◌/◌, ◌%◌, ◌==◌, ◌&&◌, nat_lt, nat_le, Bool, List, [], ◌∷◌, ◌++◌, codes, if◌then◌else◌}
use Rattle.std.specs.List.{flat_map}
use Rattle.std.specs.Str.{is_utf8}

abbrev pub hex_digit : ℕ → ℕ
hex_digit n = if nat_lt n 10 then 48 + n else 55 + n

-- whether a byte stands for itself: printable ASCII does, and the other bytes of a name in UTF-8
abbrev pub stands : Bool → ℕ → Bool
stands utf8 b = if nat_lt b 128 then nat_le 32 b && nat_lt b 127 else utf8

-- a byte by its number
unfoldable pub hex_byte : ℕ → List ℕ
hex_byte b = codes "\\\\x" ++ hex_digit (b / 16) ∷ hex_digit (b % 16) ∷ []

abbrev pub other_byte : Bool → ℕ → List ℕ
other_byte utf8 b = if stands utf8 b then b ∷ [] else hex_byte b

-- A byte in a label. What would end the text, begin another character or break a line is written so
-- that it is shown as it is.
unfoldable pub label_byte : Bool → ℕ → List ℕ
label_byte utf8 b = if b == 34 then codes "\\\"" else (if b == 92 then codes "\\\\" else (if b == 38 then codes "&amp;" else other_byte utf8 b))

-- a name in a label
unfoldable pub label : List ℕ → List ℕ
label name = flat_map (label_byte (is_utf8 name)) name
