use Rattle.std.proofs.Common.{◌+◌}
use Rattle.aig_graph.specs.Graph.{first_gate}
use Rattle.map_circuits.specs.Growing.{Extends}
use Rattle.map_circuits.specs.Instances.{StandTo}
use Rattle.map_circuits.proofs.instances.add_instance.Given as goal

abbrev pub invariant-loop-gate : goal.invariant-loop-gate
invariant-loop-gate l = record {
  extends : Extends l.fn.gates l.gates;
  substitutes : StandTo l.fn.gates l.aig l.fn.leaves (first_gate l.aig + l.gate-index) l.gates l.instance;
}
