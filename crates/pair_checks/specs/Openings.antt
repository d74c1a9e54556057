-- How latches begin, as literals: a known latch as a constant, and a free one as a variable of its
-- own.
use Rattle.std.specs.Prelude.{ℕ, ◌+◌, ◌-◌, ◌*◌, ◌<◌, ◌≤◌, ◌≡◌, ◌++◌, List, length, Option, Some, None, slice_get}
use Rattle.std.specs.List.{slice_index_or}
use Rattle.aig_graph.specs.declared.graph.Latch.{Latch}
use Rattle.aig_graph.specs.Graph.{Graph, free_before, variable}
use Rattle.aig_graph.specs.Laws.{all_free}
use Rattle.aig_graph.specs.Tables.{table}
use Rattle.aig_graph.specs.Value.{opening_literal, signed_as}

-- the literal of the choice for a free latch that has this place among those of the first circuit
abbrev pub choice_literal : ℕ → ℕ
choice_literal place = 2 * (1 + place)

-- how a latch begins that is at this place if it is free
abbrev pub opening_of : ℕ → Option Latch → ℕ
opening_of place None = 0
opening_of place (Some latch) = opening_literal latch.reset (choice_literal place)

-- how the latches of a circuit begin, of which the free ones are at these places
abbrev pub openings_of : Graph → List ℕ → List ℕ
openings_of g kept = table 0 (length g.latches) (λ j. opening_of (slice_index_or kept (free_before g j) 0) (slice_get g.latches j))

-- how those of both circuits begin
abbrev pub openings : Graph → Graph → List ℕ → List ℕ
openings c d kept = openings_of c (all_free c) ++ openings_of d kept

-- how that begins which a latch reads as
pub data BeginsAs (first : ℕ) (begins : List ℕ) (lit opening : ℕ) : Type 0 where
  constant : variable lit ≡ 0 → opening ≡ lit → BeginsAs first begins lit opening
  latch : first ≤ variable lit → variable lit < first + length begins → opening ≡ signed_as lit (slice_index_or begins (variable lit - first) 0) → BeginsAs first begins lit opening

-- each latch begins as what it reads as
pub record BeginAlike (first : ℕ) (begins reads : List ℕ) : Type 0 where
  pub long : length reads ≡ length begins
  pub each : (j : ℕ) → j < length reads → BeginsAs first begins (slice_index_or reads j 0) (slice_index_or begins j 0)
