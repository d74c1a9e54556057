use Rattle.std.proofs.Common.{ℕ, ◌≡◌, ◌<◌, [], get_or, slice_get, Some}
use Rattle.aig_graph.specs.declared.graph.Latch.{Latch}
use Rattle.aig_graph.specs.Graph.{variable}
use Rattle.aig_graph.specs.Value.{signed}
use Rattle.lane_sim.specs.Lanes.{lane, held}
use Rattle.lane_sim.proofs.table.advance.Given as goal

abbrev pub invariant-loop-j : goal.invariant-loop-j
invariant-loop-j l = (j k : ℕ) (latch : Latch) → slice_get l.aig.latches j ≡ Some latch → j < l.j → k < 256
    → lane (get_or l.state j []) k ≡ signed latch.next (held l.table (variable latch.next) k)
