use Rattle.std.proofs.Common.{ℕ, ◌+◌, ◌<◌}
use Rattle.aig_graph.specs.Graph.{first_gate}
use Rattle.lane_sim.specs.declared.stimulus.InputSequence.{InputSequence}
use Rattle.lane_sim.specs.Blocks.{HoldsBelow}
use Rattle.lane_sim.proofs.table.evaluate.Given as goal

abbrev pub invariant-loop-place : goal.invariant-loop-place
invariant-loop-place l = (k t : ℕ) (s : InputSequence) → k < 256 → HoldsBelow l.aig s l.fn.table k t (first_gate l.aig) → HoldsBelow l.aig s l.table k t (first_gate l.aig + l.place)
