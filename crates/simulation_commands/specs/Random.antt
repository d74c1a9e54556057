-- Random stimuli, made of the words of SplitMix64 (Steele, Lea and Flood).
use Rattle.std.specs.Prelude.{ℕ, zero, suc, ◌+◌, ◌/◌, ◌%◌, ◌==◌, Bool, List, map}
use Rattle.std.specs.List.{range_with_len}
use Rattle.std.specs.Int.{bit_at}
use Rattle.rand_xoshiro.specs.SplitMix64.{mix_u64}
use Rattle.lane_sim.specs.declared.stimulus.InputSequence.{InputSequence}

-- the state of the generator after n words; the seed is its first one
unfoldable pub state_after : ℕ → ℕ → ℕ
state_after seed zero = seed
state_after seed (suc k) = (mix_u64 (state_after seed k)).1

-- its word with this number, from 0
unfoldable pub word : ℕ → ℕ → ℕ
word seed k = (mix_u64 (state_after seed k)).0

-- the bits of the words of a seed, word by word, the lowest of each first
abbrev pub random_digit : ℕ → ℕ → Bool
random_digit seed i = bit_at (word seed (i / 64)) (i % 64) == 1

-- the first n bits of the words of a seed, the lowest of each first
abbrev pub digits : ℕ → ℕ → List Bool
digits seed n = map (random_digit seed) (range_with_len 0 n)

-- the steps of a sequence with this seed: each has a word as the seed of its digits, from the
-- second one on
abbrev pub random_steps : ℕ → ℕ → ℕ → List (List Bool)
random_steps inputs steps seed = map (λ t. digits (word seed (t + 1)) inputs) (range_with_len 0 steps)

-- the sequence: the first word is the seed of the choice for the free latches
abbrev pub random_sequence : ℕ → ℕ → ℕ → ℕ → InputSequence
random_sequence inputs free steps seed = record { choice = digits (word seed 0) free; steps = random_steps inputs steps seed }

-- n sequences of equal numbers of steps: each has a word of the seed as its own seed
unfoldable pub random_stimulus : ℕ → ℕ → ℕ → ℕ → ℕ → List InputSequence
random_stimulus inputs free sequences steps seed = map (λ k. random_sequence inputs free steps (word seed k)) (range_with_len 0 sequences)
