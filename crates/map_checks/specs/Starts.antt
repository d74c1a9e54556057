-- What the latches hold at step 0, among shared gates.
use Rattle.std.specs.Prelude.{ℕ, ◌+◌, ◌*◌, ◌<◌, ◌≡◌, ◌++◌, Bool, true, false, List, [], ◌∷◌, length, slice_get, Some}
use Rattle.std.specs.List.{slice_index_or}
use Rattle.std.specs.List.Sorted.{IsStrictlyIncreasing}
use Rattle.aig_graph.specs.declared.graph.Latch.{Latch}
use Rattle.aig_graph.specs.declared.graph.Reset.{Reset}
use Rattle.aig_graph.specs.declared.graph.Reset.TheVariants.{Zero, One, Free}
use Rattle.aig_graph.specs.Graph.{Graph, first_latch, free_before, free_latches, is_free, variables_end}
use Rattle.aig_graph.specs.Value.{Choice, opening_literal, value_within}
use Rattle.state_maps.specs.States.{opening_state}
use Rattle.aig_graph.specs.Gates.{IsNegated}
use Rattle.gate_sharing.specs.Copies.{Copy, CopiesValues, copied_end}

-- the literals of what the latches hold at step 0
pub record AreOpeningLiterals (g : Graph) (leaves : Copy) : Type 0 where
  pub first : leaves.first ≡ 1
  pub long : length leaves.literals ≡ length g.latches
  pub each : (j : ℕ) (latch : Latch) → slice_get g.latches j ≡ Some latch → slice_index_or leaves.literals j 0 ≡ opening_literal latch.reset (2 * (first_latch g + j))

-- values at step 0, for each choice, of a map's copy over the resets of c
pub record IsOpening (c m : Graph) (image : Copy) (f : Choice) : Type 0 where
  pub values : ℕ → Bool
  pub constant : values 0 ≡ false
  pub negation : IsNegated values
  pub latches : (j : ℕ) → j < length c.latches → values (2 * (first_latch c + j)) ≡ opening_state c f j
  pub follows : CopiesValues image (variables_end m) values (value_within m (opening_state c f) (λ j. false))

-- a copy of the map over the latches at step 0, which has for each choice the values of the map in
-- that state
pub record IsResetImage (c m : Graph) (image : Copy) : Type 0 where
  pub long : copied_end image ≡ variables_end m
  pub opening : (f : Choice) → IsOpening c m image f

-- the literal of a free latch, at this place among those
pub record IsFreeLatch (g : Graph) (lit place : ℕ) : Type 0 where
  pub position : ℕ
  pub latch : Latch
  pub there : slice_get g.latches position ≡ Some latch
  pub free : is_free latch ≡ true
  pub literal : lit ≡ 2 * (first_latch g + position)
  pub place_is : place ≡ free_before g position

-- the literal is what the latch holds at step 0, if a free one is g's free latch at this place
abbrev pub StartsAs : Graph → Reset → ℕ → ℕ → Type 0
StartsAs g Zero lit place = lit ≡ 0
StartsAs g One lit place = lit ≡ 1
StartsAs g Free lit place = IsFreeLatch g lit place

-- rising places before the next one
pub record AreRising (places : List ℕ) (next : ℕ) : Type 0 where
  pub rising : IsStrictlyIncreasing places
  pub below : (k : ℕ) → k < length places → slice_index_or places k 0 < next

-- the places, if a latch with this reset and literal was taken
abbrev pub Takes : Graph → Reset → ℕ → List ℕ → List ℕ → Type 0
Takes g Zero lit old new = (lit ≡ 0) × (new ≡ old)
Takes g One lit old new = (lit ≡ 1) × (new ≡ old)
Takes g Free lit old new = (place : ℕ) × IsFreeLatch g lit place × (new ≡ old ++ place ∷ [])

-- places among the free latches of c, one for each free latch of d before n, by the literals of d's
-- latches at step 0
pub record AreStarts (c d : Graph) (lits : ℕ → ℕ) (n : ℕ) (kept : List ℕ) : Type 0 where
  pub each : length kept ≡ free_before d n
  pub below : (k : ℕ) → k < length kept → slice_index_or kept k 0 < free_latches c
  pub starts : (j : ℕ) (latch : Latch) → j < n → slice_get d.latches j ≡ Some latch → StartsAs c latch.reset (lits j) (slice_index_or kept (free_before d j) 0)
