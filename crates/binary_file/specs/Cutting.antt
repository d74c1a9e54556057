-- Pieces and the deltas in them.
use Rattle.std.specs.Prelude.{ℕ, ◌+◌, ◌<◌, ◌≤◌, ◌≡◌, true, List, [], ◌∷◌, ◌++◌, length, drop, Option, Some, None, Result}
use Rattle.file_words.specs.declared.fault.ReadError.{ReadError}
use Rattle.file_words.specs.Answering.{◌>>=◌}
use Rattle.binary_file.specs.Deltas.{is_delta, delta_value}
use Rattle.binary_file.specs.Reading.{State, step, feed, delta_step}
use Rattle.binary_file.specs.declared.delta.WholeGate.{WholeGate}

-- the bytes begin with a delta of at most five bytes
pub record BeginsWithDelta (bytes : List ℕ) (number : ℕ) (rest : List ℕ) : Type 0 where
  pub delta : List ℕ
  pub parts : bytes ≡ delta ++ rest
  pub form : is_delta delta ≡ true
  pub few : length delta ≤ 5
  pub value : number ≡ delta_value delta

-- they begin with a delta of n bytes
abbrev pub IsWholeDelta : List ℕ → ℕ → ℕ → Type 0
IsWholeDelta bytes number len = (0 < len) × (len ≤ 5) × BeginsWithDelta bytes number (drop len bytes)

-- they begin with the two deltas of a gate with a literal, neither of which is a fault
pub record BeginsWithGate (lhs rhs0 rhs1 : ℕ) (bytes rest : List ℕ) : Type 0 where
  pub first : ℕ
  pub second : ℕ
  pub middle : List ℕ
  pub begins : BeginsWithDelta bytes first middle
  pub goes_on : BeginsWithDelta middle second rest
  pub some : 0 < first
  pub below : rhs0 + first ≡ lhs
  pub ordered : rhs1 + second ≡ rhs0

-- they begin with a gate of n bytes
abbrev pub IsWholeGate : ℕ → List ℕ → WholeGate → Type 0
IsWholeGate lhs bytes gate = (0 < gate.len) × (gate.len ≤ 10) × BeginsWithGate lhs gate.rhs0 gate.rhs1 bytes (drop gate.len bytes)

-- the states in which a delta at an offset is read, and what its last byte brings
abbrev pub AreDeltaStates : ℕ → (List ℕ → State) → (List ℕ → Result State ReadError) → Type 0
AreDeltaStates at state end_delta = (delta : List ℕ) (b : ℕ) → step (state delta) b ≡ delta_step at delta b (state (delta ++ b ∷ [])) end_delta

-- from a delta begun bytes were taken: up to its last byte, or not so far
abbrev pub IsDeltaTaken : (List ℕ → State) → (List ℕ → Result State ReadError) → List ℕ → List ℕ → List ℕ → Option ℕ → List ℕ → Type 0
IsDeltaTaken state end_delta old new piece None left = (feed (state old) piece ≡ feed (state new) left) × (length new + length left ≡ length old + length piece)
IsDeltaTaken state end_delta old new piece (Some number) left =
    (delta : List ℕ) × (number ≡ delta_value delta) × (feed (state old) piece ≡ (end_delta delta >>= λ s. feed s left)) × (length delta + length left ≡ length old + length piece)
