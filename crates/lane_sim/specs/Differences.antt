-- The differences of two circuits under a stimulus.
use Rattle.std.specs.Prelude.{ℕ, ◌<◌, ◌≡◌, ◌≢◌, ◌⊎◌, Bool, List, Option, length}
use Rattle.aig_graph.specs.Circuits.{Netlist}
use Rattle.aig_graph.specs.Graph.{free_latches}
use Rattle.aig_graph.specs.Streams.{SameShape}
use Rattle.lane_sim.specs.declared.difference.Place.{Place}
use Rattle.lane_sim.specs.Traces.{at_place}

-- one shape, and equal numbers of free latches
pub record HaveSameShape (c d : Netlist) : Type 0 where
  pub shape : SameShape c d
  pub free : free_latches d.aig ≡ free_latches c.aig

-- the circuits differ in shape, or in the number of free latches
abbrev pub DifferInShape : Netlist → Netlist → Type 0
DifferInShape c d = HaveSameShape c d → ⊥

-- of such a shape, if d has these free latches of c alone
pub record HaveKeptShape (kept : List ℕ) (c d : Netlist) : Type 0 where
  pub shape : SameShape c d
  pub free : length kept ≡ free_latches d.aig

-- the circuits don't have one shape, with these free latches kept
abbrev pub DifferInKeptShape : List ℕ → Netlist → Netlist → Type 0
DifferInKeptShape kept c d = HaveKeptShape kept c d → ⊥

-- places by sequence, then by step, then by place in the row
abbrev pub IsBefore : Place → Place → Type 0
IsBefore p q =
    (p.sequence < q.sequence)
    ⊎ ((p.sequence ≡ q.sequence) × ((p.step < q.step) ⊎ ((p.step ≡ q.step) × (p.place < q.place))))

-- what a trace has at a place
abbrev pub at : List (List (List Bool)) → Place → Option Bool
at t p = at_place t p.sequence p.step p.place

-- the first place at which two traces differ
pub record IsFirstDifference (s t : List (List (List Bool))) (p : Place) : Type 0 where
  pub differs : at s p ≢ at t p
  pub first : (q : Place) → IsBefore q p → at s q ≡ at t q
