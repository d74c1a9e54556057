use Rattle.std.proofs.Common.{ℕ, ◌≡◌, ◌+◌, ◌<◌, [], get_or}
use Rattle.aig_graph.specs.Graph.{first_latch}
use Rattle.lane_sim.proofs.table.load_latches.Given as goal

abbrev pub invariant-loop-j : goal.invariant-loop-j
invariant-loop-j l = record {
  constant : get_or l.table 0 [] ≡ get_or l.fn.table 0 [];
  latches : (j : ℕ) → j < l.j → get_or l.table (first_latch l.aig + j) [] ≡ get_or l.state j [];
}
