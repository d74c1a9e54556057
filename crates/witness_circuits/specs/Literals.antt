-- What stands for a witness's inputs and latches.
use Rattle.std.specs.Prelude.{ℕ, ◌*◌, ◌<◌, ◌≡◌, List, length, Option, Some, None}
use Rattle.std.specs.List.{slice_index_or}
use Rattle.aig_graph.specs.Value.{signed_as}
use Rattle.witness_circuits.specs.Joining.{own_at}

-- the literal that is shared, or that of the next variable
abbrev pub source_of : List ℕ → ℕ → Option ℕ → ℕ
source_of shared next None = 2 * next
source_of shared next (Some place) = slice_index_or shared place 0

-- of each place the literal that is shared, or one of the variables from `own` on, in order
pub record AreSources (places : List (Option ℕ)) (shared : List ℕ) (own : ℕ) (lits : List ℕ) : Type 0 where
  pub many : length lits ≡ length places
  pub each : (k : ℕ) → k < length places → slice_index_or lits k 0 ≡ source_of shared (own_at own places k) (slice_index_or places k None)

-- the literal with the other sign
abbrev pub negated : ℕ → ℕ
negated lit = signed_as 1 lit
