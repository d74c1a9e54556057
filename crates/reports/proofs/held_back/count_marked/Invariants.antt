use Rattle.std.proofs.Common.{◌≡◌, ◌≤◌}
use Rattle.aig_graph.specs.Counting.{count_below}
use Rattle.reports.specs.HeldBack.{is_marked_latch}
use Rattle.reports.proofs.held_back.count_marked.Given as goal

abbrev pub invariant-loop-var : goal.invariant-loop-var
invariant-loop-var l = (l.total ≤ l.var) × (l.total ≡ count_below (is_marked_latch l.aig l.keep l.marks) l.var)
