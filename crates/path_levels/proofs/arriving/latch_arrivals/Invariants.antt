use Rattle.std.proofs.Common.{◌≡◌}
use Rattle.aig_graph.specs.Tables.{table}
use Rattle.aig_graph.specs.Graph.{first_latch}
use Rattle.path_levels.specs.Arrivals.{arrival}
use Rattle.path_levels.proofs.arriving.latch_arrivals.Given as goal

abbrev pub invariant-loop-latch : goal.invariant-loop-latch
invariant-loop-latch l = l.arrivals.items ≡ table (first_latch l.aig) l.latch-index (arrival l.aig)
