use Rattle.std.proofs.Common.{◌≡◌, ◌≤◌}
use Rattle.aig_graph.specs.Counting.{count_below}
use Rattle.reports.specs.HeldBack.{is_known_held}
use Rattle.reports.proofs.held_back.count_held.Given as goal

abbrev pub invariant-loop-var : goal.invariant-loop-var
invariant-loop-var l = (l.total ≤ l.var) × (l.total ≡ count_below (is_known_held l.aig l.keep) l.var)
