use Rattle.std.proofs.Common.{ℕ, ◌≡◌, ◌+◌, ◌*◌, ◌<◌}
use Rattle.aig_graph.specs.Graph.{first_latch, free_before}
use Rattle.lane_sim.specs.Lanes.{held}
use Rattle.lane_sim.specs.Blocks.{in_lane}
use Rattle.lane_sim.specs.Traces.{value_in}
use Rattle.lane_sim.proofs.table.open_state.Given as goal

abbrev pub invariant-loop-j : goal.invariant-loop-j
invariant-loop-j l = record {
  free : l.free ≡ free_before l.aig l.j;
  before : (k j : ℕ) → k < 256 → j < l.j → held l.state j k ≡ value_in l.aig (in_lane l.sequences k) 0 (2 * (first_latch l.aig + j));
}
