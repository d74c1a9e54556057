use Rattle.std.proofs.Common.{◌≡◌, ◌+◌, ◌≤◌, length, vec_capacity, vec_len}
use Rattle.aig_graph.specs.Counting.{places}
use Rattle.aig_graph.specs.Marking.{mark_at}
use Rattle.aig_graph.specs.Graph.{first_latch, first_gate}
use Rattle.unit_flows.specs.Shown.{is_off}
use Rattle.unit_flows.proofs.judging.off_marks.Given as goal

abbrev pub invariant-loop-k : goal.invariant-loop-k
invariant-loop-k l = record {
  few : vec_len l.vars ≤ l.k;
  room : length l.passes ≤ vec_capacity l.vars;
  listed : l.vars.items ≡ places (is_off l.frame.circuit.now l.frame.keep.now (mark_at (first_latch l.frame.circuit.now.aig) l.before)) (first_gate l.frame.circuit.now.aig + l.k);
}
