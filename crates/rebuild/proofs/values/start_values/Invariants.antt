use Rattle.std.proofs.Common.{◌≡◌, ◌≤◌, ◌+◌, length, vec_capacity}
use Rattle.aig_graph.specs.Graph.{first_latch, latches_and_gates}
use Rattle.rebuild.specs.Starting.{member_start}
use Rattle.aig_graph.specs.Tables.{table}
use Rattle.rebuild.proofs.values.start_values.Given as goal

abbrev pub invariant-loop-latch : goal.invariant-loop-latch
invariant-loop-latch l = record {
  room : latches_and_gates l.fn.plan.marks.circuit.now.aig ≤ vec_capacity l.values;
  within : l.latch-index ≤ length l.fn.plan.marks.circuit.now.aig.latches;
  filled : l.values.items ≡ table (first_latch l.fn.plan.marks.circuit.now.aig) l.latch-index (member_start l.fn.plan.marks.circuit.now.aig l.fn.plan.marks.set.now);
}

abbrev pub invariant-loop-k : goal.invariant-loop-k
invariant-loop-k l = record {
  room : latches_and_gates l.fn.plan.marks.circuit.now.aig ≤ vec_capacity l.values;
  within : l.k ≤ length l.fn.plan.marks.circuit.now.aig.gates;
  filled : l.values.items
      ≡ table (first_latch l.fn.plan.marks.circuit.now.aig) (length l.fn.plan.marks.circuit.now.aig.latches + l.k) (member_start l.fn.plan.marks.circuit.now.aig l.fn.plan.marks.set.now);
}
