-- Equal signatures, in the graph in which latches read so, show that steps preserve a reading.
use Rattle.std.specs.Prelude.{ℕ, ◌+◌, ◌≡◌, List, slice_get, Some}
use Rattle.aig_graph.specs.declared.graph.Latch.{Latch}
use Rattle.aig_graph.specs.Gates.{AreEqualIn, gates_of}
use Rattle.aig_graph.specs.Graph.{Graph, variable, first_latch}
use Rattle.cleaned_circuits.specs.Merged.{replaced_graph}
use Rattle.merged_circuits.specs.Readings.{IsReading, read, signature, substitutes_by}

-- the graph in which each literal reads its substitute
abbrev pub merged_graph : Graph → List ℕ → Graph
merged_graph g reads = replaced_graph (substitutes_by g reads) g

-- A reading in which who reads as a constant has a signature that is always 0. Who reads as a latch
-- has one that is always that latch's. Both are for all values of the merged graph.
pub record IsShown (g : Graph) (held reads : List ℕ) : Type 0 where
  pub reading : IsReading g held reads
  pub constants : (j : ℕ) (latch : Latch) → slice_get g.latches j ≡ Some latch → variable (read reads j) ≡ 0
      → AreEqualIn (gates_of (merged_graph g reads)) (signature (substitutes_by g reads) latch) 0
  pub alike : (j i : ℕ) (latch first : Latch) → slice_get g.latches j ≡ Some latch → slice_get g.latches i ≡ Some first
      → variable (read reads j) ≡ first_latch g + i → AreEqualIn (gates_of (merged_graph g reads)) (signature (substitutes_by g reads) latch) (signature (substitutes_by g reads) first)
