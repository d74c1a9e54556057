use Rattle.std.proofs.Common.{ℕ, Bool, ◌≡◌, ◌≤◌, ◌+◌}
use Rattle.aig_graph.specs.Counting.{count_below}
use Rattle.aig_graph.specs.Marking.{AreAllMarks}
use Rattle.aig_graph.proofs.numbering.count_marks.Given as goal

abbrev pub invariant-loop-mark : goal.invariant-loop-mark
invariant-loop-mark l = record {
  few : l.count ≤ l.mark-index;
  counted : (first : ℕ) (p : ℕ → Bool) → AreAllMarks first l.marks p → l.count ≡ count_below p (first + l.mark-index);
}
