use Rattle.std.proofs.Common.{◌≡◌, ◌≤◌, ◌+◌, length, vec_capacity}
use Rattle.aig_graph.specs.Graph.{first_latch, variables_end}
use Rattle.rebuild.specs.Moved.{is_latched, latches_below}
use Rattle.rebuild.specs.Planned.{planned}
use Rattle.aig_graph.specs.Counting.{count_below}
use Rattle.rebuild.proofs.graph.push_staying.Given as goal

abbrev pub invariant-loop-k : goal.invariant-loop-k
invariant-loop-k l = record {
  made : l.latches.items ≡ latches_below (planned l.plan) (first_latch l.plan.marks.circuit.now.aig + l.k);
  within : l.k ≤ length l.plan.marks.circuit.now.aig.latches;
  room : count_below (is_latched (planned l.plan)) (variables_end l.plan.marks.circuit.now.aig) ≤ vec_capacity l.latches;
}
