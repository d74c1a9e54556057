-- The state of a circuit after a pass of cleaning.
use Rattle.std.specs.Prelude.{ℕ, ◌+◌, ◌≡◌, Bool, false, List, length, slice_get, Option, Some, None}
use Rattle.aig_graph.specs.Counting.{places}
use Rattle.aig_graph.specs.declared.graph.Latch.{Latch}
use Rattle.aig_graph.specs.Graph.{Graph, first_latch}
use Rattle.aig_graph.specs.Value.{value_within}
use Rattle.cleaned_circuits.specs.Latches.{latch_substitute}
use Rattle.state_maps.specs.States.{State, Digits}

-- the substitute of a latch has its value: its constant if it is constant, the first latch that it
-- duplicates if there is one
abbrev pub SubstitutesHold : Graph → List ℕ → State → Type 0
SubstitutesHold g held s = (x : Digits) (j : ℕ) (latch : Latch) → slice_get g.latches j ≡ Some latch → value_within g x s (latch_substitute g held j (Some latch)) ≡ s j

abbrev pub held_by : State → Option ℕ → Bool
held_by s None = false
held_by s (Some j) = s j

-- the latches that stay hold what they held
abbrev pub trimmed_state : Graph → (ℕ → Bool) → State → State
trimmed_state g reached s = λ k. held_by s (slice_get (places (λ j. reached (first_latch g + j)) (length g.latches)) k)
