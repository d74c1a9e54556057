-- The latches of a lifted witness.
use Rattle.std.specs.Prelude.{ℕ, ◌<◌, ◌≡◌, List, [], ◌∷◌, length, take, slice_get, Option, Some, None}
use Rattle.aig_graph.specs.declared.graph.Latch.{Latch}
use Rattle.witness_circuits.specs.Joining.{own_count}

-- of the first n latches those whose places are shared with none, in order
pub record AreOwn (places : List (Option ℕ)) (latches : List Latch) (n : ℕ) (own : List Latch) : Type 0 where
  pub many : length own ≡ own_count (take n places)
  pub each : (k : ℕ) (latch : Latch) → k < n → slice_get places k ≡ Some None → slice_get latches k ≡ Some latch → slice_get own (own_count (take k places)) ≡ Some latch
  pub from : (q : ℕ) (latch : Latch) → slice_get own q ≡ Some latch → (k : ℕ) × (slice_get latches k ≡ Some latch)

-- the latches with these next literals
abbrev pub with_nexts : List ℕ → List Latch → List Latch
with_nexts [] latches = latches
with_nexts (next ∷ nexts) [] = []
with_nexts (next ∷ nexts) (latch ∷ latches) = record latch { next = next } ∷ with_nexts nexts latches
