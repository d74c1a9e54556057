use Rattle.std.proofs.Common.{◌≡◌, ◌+◌, length}
use Rattle.aig_graph.specs.Tables.{table}
use Rattle.aig_graph.specs.Graph.{first_latch}
use Rattle.path_levels.specs.Arrivals.{arrival}
use Rattle.path_levels.proofs.arriving.arrivals.Given as goal

abbrev pub invariant-loop-gate : goal.invariant-loop-gate
invariant-loop-gate l = l.arrivals.items ≡ table (first_latch l.aig) (length l.aig.latches + l.gate-index) (arrival l.aig)
