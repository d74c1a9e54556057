-- Two circuits as one graph, in which their latches read as given literals.
use Rattle.std.specs.Prelude.{ℕ, ◌<◌, ◌≤◌, ◌≡◌, ◌++◌, ◌⊎◌, All, Bool, List, drop, length, map, take}
use Rattle.std.specs.List.{slice_index_or}
use Rattle.aig_graph.specs.Gates.{AreEqualIn, Respects, gates_of}
use Rattle.aig_graph.specs.Graph.{Graph, first_gate, first_latch, variable, variables_end}
use Rattle.gate_sharing.specs.Circuits.{copied_latch}
use Rattle.gate_sharing.specs.Copies.{Copy, CopiesValues, copied_end, copy_of}
use Rattle.pair_checks.specs.declared.pairs.Pair.{Pair}

-- what the variables before the gates of a circuit are in the graph
abbrev pub leaves_of : Graph → List ℕ → Copy
leaves_of c lits = record { first = first_latch c; literals = lits }

-- a copy of the gates of g in a graph, which has their values if the variables before the gates
-- have theirs
pub record IsSide (p g : Graph) (leaves copy : Copy) : Type 0 where
  pub long : copied_end copy ≡ variables_end g
  pub follows : (values own : ℕ → Bool) → Respects (gates_of p) values → Respects (gates_of g) own
      → CopiesValues leaves (first_gate g) values own → CopiesValues copy (variables_end g) values own

-- a literal of a constant, or of a latch
abbrev pub IsRead : ℕ → ℕ → ℕ → Type 0
IsRead first end lit = (variable lit ≡ 0) ⊎ ((first ≤ variable lit) × (variable lit < end))

-- the graph has the inputs of both circuits, and their latches, each of which is told what it is
-- told in its circuit
pub record IsPair (c d : Graph) (reads : List ℕ) (p : Pair) : Type 0 where
  pub start : first_latch p.graph ≡ first_latch c
  pub latches : p.graph.latches ≡ map (copied_latch p.first) c.latches ++ map (copied_latch p.second) d.latches
  pub long : length reads ≡ length p.graph.latches
  pub each : All (IsRead (first_latch c) (first_gate p.graph)) reads
  pub first : IsSide p.graph c (leaves_of c (take (length c.latches) reads)) p.first
  pub second : IsSide p.graph d (leaves_of d (drop (length c.latches) reads)) p.second

-- the literals of the first n places are equal in the graph, whatever the values are
abbrev pub AreEqualAt : Pair → List ℕ → List ℕ → ℕ → Type 0
AreEqualAt p first second n = (j : ℕ) → j < n → AreEqualIn (gates_of p.graph) (copy_of p.second (slice_index_or second j 0)) (copy_of p.first (slice_index_or first j 0))
