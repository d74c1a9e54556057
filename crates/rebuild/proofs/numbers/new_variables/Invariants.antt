use Rattle.std.proofs.Common.{◌≡◌, ◌≤◌, ◌+◌, length, vec_capacity}
use Rattle.aig_graph.specs.Graph.{first_latch, latches_and_gates}
use Rattle.rebuild.specs.Moved.{gates_start, is_latched, is_outside, new_variable}
use Rattle.rebuild.specs.Planned.{marked}
use Rattle.aig_graph.specs.Counting.{count_below}
use Rattle.aig_graph.specs.Tables.{table}
use Rattle.rebuild.proofs.numbers.new_variables.Given as goal

abbrev pub invariant-loop-k : goal.invariant-loop-k
invariant-loop-k l = record {
  room : latches_and_gates l.fn.marks.circuit.now.aig ≤ vec_capacity l.numbers;
  within : l.k ≤ length l.fn.marks.circuit.now.aig.latches;
  latch_is : l.latch ≡ first_latch l.fn.marks.circuit.now.aig + count_below (is_latched (marked l.fn.marks)) (first_latch l.fn.marks.circuit.now.aig + l.k);
  filled : l.numbers.items ≡ table (first_latch l.fn.marks.circuit.now.aig) l.k (new_variable (marked l.fn.marks));
}

abbrev pub invariant-loop-k-2 : goal.invariant-loop-k-2
invariant-loop-k-2 l = record {
  room : latches_and_gates l.fn.marks.circuit.now.aig ≤ vec_capacity l.numbers;
  from : length l.fn.marks.circuit.now.aig.latches ≤ l.k;
  within : l.k ≤ latches_and_gates l.fn.marks.circuit.now.aig;
  latch_is : l.latch ≡ first_latch l.fn.marks.circuit.now.aig + count_below (is_latched (marked l.fn.marks)) (first_latch l.fn.marks.circuit.now.aig + l.k);
  gate_is : l.gate ≡ gates_start (marked l.fn.marks) + count_below (is_outside (marked l.fn.marks)) (first_latch l.fn.marks.circuit.now.aig + l.k);
  filled : l.numbers.items ≡ table (first_latch l.fn.marks.circuit.now.aig) l.k (new_variable (marked l.fn.marks));
}
