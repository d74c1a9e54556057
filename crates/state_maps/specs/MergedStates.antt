-- States in which latches that are merged agree.
use Rattle.std.specs.Prelude.{ℕ, ◌≡◌, ◌&&◌, Bool, true, false, List, [], ◌∷◌, suc, slice_get, Some}
use Rattle.aig_graph.specs.declared.graph.Latch.{Latch}
use Rattle.aig_graph.specs.Graph.{Graph}
use Rattle.aig_graph.specs.Value.{value_within}
use Rattle.merged_circuits.specs.Readings.{read}
use Rattle.state_maps.specs.RetimedStates.{agrees}
use Rattle.state_maps.specs.States.{Digits, State}

-- each latch holds what it reads as
abbrev pub ReadsHold : Graph → List ℕ → State → Type 0
ReadsHold g reads s = (x : Digits) (j : ℕ) (latch : Latch) → slice_get g.latches j ≡ Some latch → value_within g x s (read reads j) ≡ s j

-- a test of that, of these latches, numbered from j on
unfoldable pub reads_right : Graph → List ℕ → State → ℕ → List Latch → Bool
reads_right g reads s j [] = true
reads_right g reads s j (latch ∷ latches) = agrees (value_within g (λ i. false) s (read reads j)) (s j) && reads_right g reads s (suc j) latches
