use Rattle.std.proofs.Common.{◌≡◌}
use Rattle.aig_graph.specs.Graph.{free_before}
use Rattle.aig_graph.specs.Tables.{table}
use Rattle.map_checks.proofs.starting.free_places.Given as goal

abbrev pub invariant-loop-latch : goal.invariant-loop-latch
invariant-loop-latch l = record {
  places : l.places.items ≡ table 0 l.latch-index (free_before l.aig);
  free : l.free ≡ free_before l.aig l.latch-index;
}
