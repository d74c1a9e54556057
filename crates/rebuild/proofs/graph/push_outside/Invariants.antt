use Rattle.std.proofs.Common.{◌≡◌, ◌≤◌, ◌+◌, length, vec_capacity}
use Rattle.aig_graph.specs.Graph.{first_gate}
use Rattle.rebuild.specs.Moved.{gates_below}
use Rattle.rebuild.specs.Planned.{planned}
use Rattle.rebuild.proofs.graph.push_outside.Given as goal

abbrev pub invariant-loop-k : goal.invariant-loop-k
invariant-loop-k l = record {
  made : l.gates.items ≡ gates_below (planned l.plan) (first_gate l.plan.marks.circuit.now.aig + l.k);
  within : l.k ≤ length l.plan.marks.circuit.now.aig.gates;
  room : length l.plan.marks.circuit.now.aig.gates ≤ vec_capacity l.gates;
}
