-- Sequences in the lanes of a block, a step after another.
use Rattle.std.specs.Prelude.{ℕ, ◌<◌, ◌≡◌, false, List, length}
use Rattle.aig_graph.specs.Graph.{Graph, IsGraph, variables_end}
use Rattle.lane_sim.specs.declared.stimulus.InputSequence.{InputSequence}
use Rattle.lane_sim.specs.declared.steps.State.{State}
use Rattle.lane_sim.specs.declared.steps.Values.{Values}
use Rattle.lane_sim.specs.Lanes.{held}
use Rattle.lane_sim.specs.Blocks.{in_lane, HoldsBelow, HoldsLatches}

-- room for what the latches of a graph hold
abbrev pub IsStateFor : Graph → State → Type 0
IsStateFor g state = length state.latches.items ≡ length g.latches

-- what the latches hold at a step, of each sequence in its lane
pub record HoldsAt (g : Graph) (sequences : List InputSequence) (state : State) (t : ℕ) : Type 0 where
  pub room : IsStateFor g state
  pub each : (k : ℕ) → k < 256 → HoldsLatches g (in_lane sequences k) state.latches.items k t

-- room for the values of a graph's variables; the constant has its own
pub record AreFor (g : Graph) (values : Values) : Type 0 where
  pub long : length values.table.items ≡ variables_end g
  pub constant : (k : ℕ) → k < 256 → held values.table.items 0 k ≡ false

-- the values of all variables at a step, of each sequence in its lane
pub record AreAt (g : Graph) (sequences : List InputSequence) (values : Values) (t : ℕ) : Type 0 where
  pub graph : IsGraph g
  pub room : AreFor g values
  pub each : (k : ℕ) → k < 256 → HoldsBelow g (in_lane sequences k) values.table.items k t (variables_end g)
