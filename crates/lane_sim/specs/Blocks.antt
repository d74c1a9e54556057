-- What a table of lanes by variable holds in the simulation of a block.
use Rattle.std.specs.Prelude.{ℕ, ◌+◌, ◌*◌, ◌/◌, ◌%◌, ◌<◌, ◌≡◌, Bool, false, List, [], length, map, slice_get, take, drop}
use Rattle.std.specs.List.{slice_index_or, enumerate_from}
use Rattle.std.specs.Option.{IsSomeAnd}
use Rattle.aig_graph.specs.Graph.{Graph, first_latch}
use Rattle.lane_sim.specs.declared.stimulus.InputSequence.{InputSequence}
use Rattle.lane_sim.specs.Lanes.{lane, held}
use Rattle.lane_sim.specs.Traces.{value_in}

-- the sequence of a lane, and an empty one in the lanes after the last
abbrev pub in_lane : List InputSequence → ℕ → InputSequence
in_lane sequences k = slice_index_or sequences k (record { choice = []; steps = [] })

-- the values of the constant and of the latches at a step, in a lane
pub record HoldsState (g : Graph) (s : InputSequence) (table : List (List ℕ)) (k t : ℕ) : Type 0 where
  pub constant : held table 0 k ≡ false
  pub latches : (j : ℕ) → j < length g.latches → held table (first_latch g + j) k ≡ value_in g s t (2 * (first_latch g + j))

-- what a list of the latches holds at a step, in a lane
pub record HoldsLatches (g : Graph) (s : InputSequence) (latches : List (List ℕ)) (k t : ℕ) : Type 0 where
  pub each : (j : ℕ) → j < length g.latches → held latches j k ≡ value_in g s t (2 * (first_latch g + j))

-- the values of the variables below n at a step, in a lane
pub record HoldsBelow (g : Graph) (s : InputSequence) (table : List (List ℕ)) (k t n : ℕ) : Type 0 where
  pub each : (v : ℕ) → v < n → held table v k ≡ value_in g s t (2 * v)

-- the values in a lane of a row
abbrev pub row_in : ℕ → List (List ℕ) → List Bool
row_in k row = map (λ lanes. lane lanes k) row

-- rows with the values of literals for each step of each sequence
pub record IsBlock (g : Graph) (literals : List ℕ) (sequences : List InputSequence) (rows : List (List (List ℕ))) : Type 0 where
  pub each : (k t : ℕ) → k < length sequences → t < length (in_lane sequences k).steps
      → IsSomeAnd (slice_get rows t) (λ row. row_in k row ≡ map (value_in g (in_lane sequences k) t) literals)

-- the sequences of a block
abbrev pub block_of : List InputSequence → ℕ → List InputSequence
block_of sequences b = take 256 (drop (256 * b) sequences)

-- the first steps of a sequence, from the blocks
abbrev pub steps_in : List (List (List (List ℕ))) → ℕ → ℕ → List (List Bool)
steps_in blocks s steps = map (row_in (s % 256)) (take steps (slice_index_or blocks (s / 256) []))

-- what blocks hold of sequences with these numbers of steps
unfoldable pub recorded : List ℕ → List (List (List (List ℕ))) → List (List (List Bool))
recorded steps blocks = map (λ e. steps_in blocks e.0 e.1) (enumerate_from 0 steps)
