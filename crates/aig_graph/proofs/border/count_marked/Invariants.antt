use Rattle.std.proofs.Common.{◌≡◌, ◌≤◌}
use Rattle.aig_graph.specs.Border.{is_counted}
use Rattle.aig_graph.specs.Counting.{count_below}
use Rattle.aig_graph.proofs.border.count_marked.Given as goal

abbrev pub invariant-loop-var : goal.invariant-loop-var
invariant-loop-var l = (l.total ≤ l.var) × (l.total ≡ count_below (is_counted l.aig l.inside l.marks) l.var)
