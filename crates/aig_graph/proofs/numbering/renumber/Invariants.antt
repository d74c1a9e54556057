use Rattle.std.proofs.Common.{ℕ, Bool, ◌≡◌, ◌≤◌, ◌+◌}
use Rattle.aig_graph.specs.Counting.{count_below, numbered}
use Rattle.aig_graph.specs.Marking.{AreAllMarks}
use Rattle.aig_graph.specs.Tables.{table}
use Rattle.aig_graph.proofs.numbering.renumber.Given as goal

abbrev pub invariant-loop-k : goal.invariant-loop-k
invariant-loop-k l = record {
  few : l.ahead_number ≤ l.start + l.k;
  few_more : l.other_number ≤ l.next + l.k;
  counted : (p : ℕ → Bool) → AreAllMarks l.first l.ahead p → l.ahead_number ≡ l.start + count_below p (l.first + l.k);
  counted_more : (q : ℕ → Bool) → AreAllMarks l.first l.others q → l.other_number ≡ l.next + count_below q (l.first + l.k);
  filled : (p q : ℕ → Bool) → AreAllMarks l.first l.ahead p → AreAllMarks l.first l.others q → l.numbers.items ≡ table l.first l.k (numbered p q l.start l.next);
}
