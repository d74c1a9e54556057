use Rattle.std.proofs.Common.{ℕ, ◌≡◌, ◌+◌, ◌≤◌, List, length, vec_capacity, vec_len}
use Rattle.unit_flows.specs.Marks.{ReachSink}
use Rattle.unit_flows.proofs.sweeps.first_sweep.Given as goal

abbrev pub invariant-loop-k : goal.invariant-loop-k
invariant-loop-k l = record {
  reach : (held : List ℕ) → ReachSink l.frame.circuit.now held l.flows l.fn.before l.fn.after → ReachSink l.frame.circuit.now held l.flows l.before l.after;
  long_before : length l.before ≡ length l.fn.before;
  long_after : length l.after ≡ length l.fn.after;
  few : vec_len l.still_open + l.k ≤ length l.gates;
  room : vec_capacity l.still_open ≡ vec_capacity l.fn.still_open;
}
