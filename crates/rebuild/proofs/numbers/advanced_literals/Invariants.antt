use Rattle.std.proofs.Common.{◌≡◌, ◌≤◌, ◌+◌, length, vec_capacity}
use Rattle.aig_graph.specs.Graph.{first_latch, latches_and_gates}
use Rattle.rebuild.specs.Moved.{advanced, copies_start}
use Rattle.rebuild.specs.Planned.{marked}
use Rattle.aig_graph.specs.Counting.{count_below}
use Rattle.aig_graph.specs.Marking.{has}
use Rattle.aig_graph.specs.Tables.{table}
use Rattle.rebuild.proofs.numbers.advanced_literals.Given as goal

abbrev pub invariant-loop-latch : goal.invariant-loop-latch
invariant-loop-latch l = record {
  room : latches_and_gates l.fn.marks.circuit.now.aig ≤ vec_capacity l.literals;
  within : l.latch-index ≤ length l.fn.marks.circuit.now.aig.latches;
  filled : l.literals.items ≡ table (first_latch l.fn.marks.circuit.now.aig) l.latch-index (advanced (marked l.fn.marks));
}

abbrev pub invariant-loop-k : goal.invariant-loop-k
invariant-loop-k l = record {
  room : latches_and_gates l.fn.marks.circuit.now.aig ≤ vec_capacity l.literals;
  from : length l.fn.marks.circuit.now.aig.latches ≤ l.k;
  within : l.k ≤ latches_and_gates l.fn.marks.circuit.now.aig;
  copy_is : l.copy ≡ copies_start (marked l.fn.marks) + count_below (has l.fn.marks.set.now) (first_latch l.fn.marks.circuit.now.aig + l.k);
  filled : l.literals.items ≡ table (first_latch l.fn.marks.circuit.now.aig) l.k (advanced (marked l.fn.marks));
}
