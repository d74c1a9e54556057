-- Circuits whose latches all stand for themselves.
use Rattle.std.specs.Prelude.{ℕ, ◌+◌, ◌*◌, ◌≡◌, List, Some, slice_get}
use Rattle.aig_graph.specs.declared.graph.Latch.{Latch}
use Rattle.aig_graph.specs.Graph.{Graph, first_latch}
use Rattle.cleaned_circuits.specs.Latches.{latch_substitute}

-- each latch is its own substitute: unless held, none is constant or has an earlier one's next
-- literal and known reset
abbrev pub AreOwnLatches : Graph → List ℕ → Type 0
AreOwnLatches g held = (j : ℕ) (latch : Latch) → slice_get g.latches j ≡ Some latch → latch_substitute g held j (Some latch) ≡ 2 * (first_latch g + j)
