-- Classes of latches of which each is told what the class's first is told.
use Rattle.std.specs.Prelude.{ℕ, ◌+◌, ◌<◌, ◌≡◌, List, length, slice_get, Some}
use Rattle.std.specs.List.{slice_index_or}
use Rattle.aig_graph.specs.declared.graph.Latch.{Latch}
use Rattle.aig_graph.specs.Gates.{AreEqualIn, gates_of}
use Rattle.aig_graph.specs.Graph.{Graph, variable, first_latch}
use Rattle.aig_graph.specs.Value.{opening_literal, signed_as}

-- the signature of a latch, negated if its reset is 1
abbrev pub told : Latch → ℕ
told latch = signed_as (opening_literal latch.reset 0) latch.next

-- latch j has the signature 0 if its reading is a constant, and that of latch i if its reading is
-- that
pub record IsAlike (g : Graph) (j reads : ℕ) : Type 0 where
  pub constant : (latch : Latch) → slice_get g.latches j ≡ Some latch → variable reads ≡ 0 → AreEqualIn (gates_of g) (told latch) 0
  pub first : (i : ℕ) (latch first : Latch) → slice_get g.latches j ≡ Some latch → slice_get g.latches i ≡ Some first → variable reads ≡ first_latch g + i
      → AreEqualIn (gates_of g) (told latch) (told first)

-- so is each latch
abbrev pub AreAlike : Graph → List ℕ → Type 0
AreAlike g reads = (j : ℕ) → j < length reads → IsAlike g j (slice_index_or reads j 0)
