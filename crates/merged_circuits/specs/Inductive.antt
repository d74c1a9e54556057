-- Readings that steps preserve: in each state in which all latches hold what they read as, they are
-- told to hold it again. How that was found is no part of it.
use Rattle.std.specs.Prelude.{ℕ, ◌+◌, ◌≡◌, Bool, List, slice_get, Some}
use Rattle.aig_graph.specs.declared.graph.Latch.{Latch}
use Rattle.aig_graph.specs.Gates.{Respects, gates_of}
use Rattle.aig_graph.specs.Graph.{Graph, variable, first_latch}
use Rattle.aig_graph.specs.Circuits.{Netlist}
use Rattle.cleaned_circuits.specs.Merged.{replaced_circuit}
use Rattle.merged_circuits.specs.Readings.{IsReading, from_reset, own_literal, read, substitutes_by}

-- each latch has the value of what it reads as
abbrev pub Agrees : Graph → List ℕ → (ℕ → Bool) → Type 0
Agrees g reads values = (j : ℕ) (latch : Latch) → slice_get g.latches j ≡ Some latch → values (read reads j) ≡ values (own_literal g j)

-- two literals have one value in each state, reachable or not, in which each latch has the value of
-- what it reads as
abbrev pub AreEqualUnder : Graph → List ℕ → ℕ → ℕ → Type 0
AreEqualUnder g reads a b = (values : ℕ → Bool) → Respects (gates_of g) values → Agrees g reads values → values a ≡ values b

-- what a latch is told: its next literal, negated if its reset is 1
abbrev pub told : Latch → ℕ
told latch = from_reset latch.reset latch.next

-- Steps preserve a reading if this is so in each state in which all latches hold what they read as.
-- Who reads as a constant is told 0. Who reads as a latch is told what that is told.
pub record IsInductive (g : Graph) (held reads : List ℕ) : Type 0 where
  pub reading : IsReading g held reads
  pub constants : (j : ℕ) (latch : Latch) → slice_get g.latches j ≡ Some latch → variable (read reads j) ≡ 0 → AreEqualUnder g reads (told latch) 0
  pub alike : (j i : ℕ) (latch first : Latch) → slice_get g.latches j ≡ Some latch → slice_get g.latches i ≡ Some first
      → variable (read reads j) ≡ first_latch g + i → AreEqualUnder g reads (told latch) (told first)

-- d is c, each literal of it reading the substitute of what it read, by this reading, which steps
-- preserve
pub record IsMergedBy (held reads : List ℕ) (c d : Netlist) : Type 0 where
  pub inductive : IsInductive c.aig held reads
  pub circuit : d ≡ replaced_circuit (substitutes_by c.aig reads) c
