use Rattle.std.proofs.Common.{◌≡◌, ◌≤◌, vec_capacity, vec_len}
use Rattle.unit_flows.proofs.onward_sweeps.push_numbers.Given as goal

abbrev pub invariant-loop-k : goal.invariant-loop-k
invariant-loop-k l = record {
  few : vec_len l.still_open ≤ l.k;
  room : vec_capacity l.still_open ≡ vec_capacity l.fn.still_open;
}
