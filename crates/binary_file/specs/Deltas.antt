-- What deltas are, and what they spell.
use Rattle.std.specs.Prelude.{ℕ, ◌+◌, ◌*◌, ◌/◌, ◌%◌, nat_lt, Bool, false, ◌&&◌, List, [], ◌∷◌, if◌then◌else◌, zero, suc}

-- the sum of the groups of seven bits, the lowest first
unfoldable pub delta_value : List ℕ → ℕ
delta_value [] = 0
delta_value (byte ∷ bytes) = byte % 128 + 128 * delta_value bytes

-- whether the last byte is below 128, and no byte before it is
unfoldable pub is_delta : List ℕ → Bool
is_delta [] = false
is_delta (byte ∷ []) = nat_lt byte 128
is_delta (byte ∷ next ∷ bytes) = nat_lt 127 byte && is_delta (next ∷ bytes)

-- the bytes of a number, if at most n follow the first; the last one holds what is left
unfoldable pub bytes_within : ℕ → ℕ → List ℕ
bytes_within zero n = n ∷ []
bytes_within (suc more) n = if nat_lt n 128 then n ∷ [] else (n % 128 + 128) ∷ bytes_within more (n / 128)

-- the bytes of a number below 2^35, as few as can be
abbrev pub delta_of : ℕ → List ℕ
delta_of n = bytes_within 4 n
