-- What a witness circuit reads, by what it shares and what it has of its own.
use Rattle.std.proofs.Common.{ℕ, ◌≤◌, ◌≡◌, Bool, false, List, length, slice_get, Option, Some, ap}
use Rattle.std.proofs.lemmas.Option.{slice_get_past}
use Rattle.witness_circuits.specs.Joining.{joined, joined_at}
use Rattle.witness_circuits.specs.Witnesses.{Agree}
use Rattle.std.specs.Prelude.{None}

-- the joined values agree with the model's at each shared place
pub joined-agrees : (places : List (Option ℕ)) (shared own : ℕ → Bool) → Agree places shared (joined places shared own)
joined-agrees places shared own k place e = ap (joined_at shared own k) e

-- at a place of the witness's own the joined value is the witness's own
pub joined-own : (places : List (Option ℕ)) (shared own : ℕ → Bool) (k : ℕ) → slice_get places k ≡ Some None → joined places shared own k ≡ own k
joined-own places shared own k e = ap (joined_at shared own k) e

-- past the last place the joined value is 0
pub joined-past : (places : List (Option ℕ)) (shared own : ℕ → Bool) (k : ℕ) → length places ≤ k → joined places shared own k ≡ false
joined-past places shared own k beyond = ap (joined_at shared own k) (slice_get_past places k beyond)
