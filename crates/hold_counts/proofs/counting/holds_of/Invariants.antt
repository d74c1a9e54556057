use Rattle.std.proofs.Common.{◌≡◌}
use Rattle.aig_graph.specs.Graph.{first_latch}
use Rattle.aig_graph.specs.Tables.{table}
use Rattle.hold_counts.specs.Holds.{hold_at}
use Rattle.hold_counts.proofs.counting.holds_of.Given as goal

abbrev pub invariant-loop-place : goal.invariant-loop-place
invariant-loop-place l = l.found.items ≡ table (first_latch l.aig) l.place (hold_at l.aig l.keep)
