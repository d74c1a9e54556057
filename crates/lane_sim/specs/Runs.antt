-- The property literals of a circuit, a step after another.
use Rattle.std.specs.Prelude.{ℕ, ◌≡◌, List}
use Rattle.aig_graph.specs.Circuits.{Netlist}
use Rattle.aig_graph.specs.Streams.{property_literals}
use Rattle.lane_sim.specs.declared.stimulus.InputSequence.{InputSequence}
use Rattle.lane_sim.specs.declared.run.Run.{Run}
use Rattle.lane_sim.specs.Steps.{AreFor, HoldsAt}

-- before a step of the sequences of a block
pub record IsRunOf (c : Netlist) (sequences : List InputSequence) (t : ℕ) (run : Run) : Type 0 where
  pub literals : run.literals.items ≡ property_literals c.props
  pub state : HoldsAt c.aig sequences run.state t
  pub values : AreFor c.aig run.values
