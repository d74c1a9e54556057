use Rattle.std.proofs.Common.{ℕ, Bool, ◌≡◌, ◌≤◌, ◌+◌}
use Rattle.aig_graph.specs.Counting.{count_below}
use Rattle.aig_graph.specs.Marking.{AreAllMarks}
use Rattle.aig_graph.specs.Tables.{table}
use Rattle.aig_graph.proofs.numbering.number_marks.Given as goal

abbrev pub invariant-loop-mark : goal.invariant-loop-mark
invariant-loop-mark l = record {
  few : l.number ≤ l.start + l.mark-index;
  counted : (first : ℕ) (p : ℕ → Bool) → AreAllMarks first l.marks p → l.number ≡ l.start + count_below p (first + l.mark-index);
  filled : (first : ℕ) (p : ℕ → Bool) → AreAllMarks first l.marks p → l.numbers.items ≡ table first l.mark-index (λ v. l.start + count_below p v);
}
