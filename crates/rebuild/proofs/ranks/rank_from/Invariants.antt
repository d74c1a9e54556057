use Rattle.std.proofs.Common.{ℕ, Bool, ◌≡◌, ◌+◌, ◌≤◌}
use Rattle.aig_graph.specs.Counting.{count_below}
use Rattle.aig_graph.specs.Marking.{AreAllMarks}
use Rattle.rebuild.proofs.ranks.rank_from.Given as goal

abbrev pub invariant-loop-k : goal.invariant-loop-k
invariant-loop-k l = record {
  few : l.next ≤ l.k;
  counted : (first : ℕ) (p : ℕ → Bool) → AreAllMarks first l.marks p → l.rank ≡ count_below p (first + l.from) → l.next ≡ count_below p (first + l.k);
}
