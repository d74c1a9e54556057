-- What a circuit has.
use Rattle.std.specs.Prelude.{ℕ, [], length}
use Rattle.aig_graph.specs.Graph.{free_latches, known_latches}
use Rattle.aig_graph.specs.Circuits.{Netlist}
use Rattle.frame_net.specs.Passable.{passable_gates}
use Rattle.path_levels.specs.Levels.{levels}
use Rattle.reports.specs.declared.statistics.Counts.{Counts}
use Rattle.reports.specs.declared.statistics.Statistics.{Statistics}

-- how many there are of each kind; justice properties are counted, not their literals
unfoldable pub counts : Netlist → Counts
counts c = record {
  inputs = c.aig.inputs;
  latches = length c.aig.latches;
  free = free_latches c.aig;
  known = known_latches c.aig;
  gates = length c.aig.gates;
  levels = levels c;
  outputs = length c.props.outputs;
  bad = length c.props.bad;
  constraints = length c.props.constraints;
  justice = length c.props.justice;
  fairness = length c.props.fairness;
}

-- these counts, and the number of passable gates with no latch held
unfoldable pub statistics : Netlist → Statistics
statistics c = record { counts = counts c; passable = length (passable_gates c.aig []) }
