-- Words of 64 lanes.
use Rattle.std.specs.Prelude.{ℕ, Bool, not, bit_and, if◌then◌else◌}
use Rattle.std.specs.Int.{w64, bit_not}

-- a word, negated if asked
abbrev pub negated_if : Bool → ℕ → ℕ
negated_if negated word = if negated then bit_not w64 word else word

-- the AND of two words, each first negated if asked
abbrev pub and_words : Bool → Bool → ℕ → ℕ → ℕ
and_words neg_a neg_b a b = bit_and (negated_if neg_a a) (negated_if neg_b b)

-- a value, negated if asked
abbrev pub signed_if : Bool → Bool → Bool
signed_if negated b = if negated then not b else b
