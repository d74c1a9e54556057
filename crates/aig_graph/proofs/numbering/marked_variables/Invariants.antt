use Rattle.std.proofs.Common.{ℕ, Bool, ◌≡◌, ◌+◌}
use Rattle.aig_graph.specs.Counting.{places}
use Rattle.aig_graph.specs.Marking.{AreAllMarks}
use Rattle.aig_graph.proofs.numbering.marked_variables.Given as goal

abbrev pub invariant-loop-k : goal.invariant-loop-k
invariant-loop-k l = (p : ℕ → Bool) → AreAllMarks l.first l.marks p → l.vars.items ≡ places p (l.first + l.k)
