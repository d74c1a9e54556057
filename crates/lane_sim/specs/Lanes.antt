-- The lanes of a block, as words of 64.
use Rattle.std.specs.Prelude.{ℕ, ◌/◌, ◌%◌, ◌^◌, ◌<◌, ◌≡◌, ◌==◌, Bool, List, [], length, slice_index}
use Rattle.std.specs.List.{slice_index_or}
use Rattle.std.specs.Int.{bit_at}

-- the words of 256 lanes
pub record AreLanes (words : List ℕ) : Type 0 where
  pub four : length words ≡ 4
  pub fit : (i : ℕ) → slice_index words i < 2 ^ 64

-- the value of a lane, which is a bit of the word that holds it
unfoldable pub lane : List ℕ → ℕ → Bool
lane words k = bit_at (slice_index words (k / 64)) (k % 64) == 1

-- the value of a variable in a lane, from a table by variable
abbrev pub held : List (List ℕ) → ℕ → ℕ → Bool
held table v k = lane (slice_index_or table v []) k
