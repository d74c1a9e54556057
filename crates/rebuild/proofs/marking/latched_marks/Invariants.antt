use Rattle.std.proofs.Common.{◌≡◌, ◌≤◌, length, vec_capacity}
use Rattle.aig_graph.specs.Graph.{first_latch}
use Rattle.rebuild.specs.Entries.{latched_by}
use Rattle.aig_graph.specs.Tables.{table}
use Rattle.rebuild.proofs.marking.latched_marks.Given as goal

abbrev pub invariant-loop-k : goal.invariant-loop-k
invariant-loop-k l = record {
  room : length l.marks ≤ vec_capacity l.latched;
  within : l.k ≤ length l.aig.latches;
  filled : l.latched.items ≡ table (first_latch l.aig) l.k (latched_by l.aig l.inside l.marks);
}

abbrev pub invariant-loop-k-2 : goal.invariant-loop-k-2
invariant-loop-k-2 l = record {
  room : length l.marks ≤ vec_capacity l.latched;
  from : length l.aig.latches ≤ l.k;
  within : l.k ≤ length l.marks;
  filled : l.latched.items ≡ table (first_latch l.aig) l.k (latched_by l.aig l.inside l.marks);
}
