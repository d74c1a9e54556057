use Rattle.std.proofs.Common.{ℕ, ◌≡◌, ◌<◌, true, List, get_or}
use Rattle.aig_graph.specs.Graph.{Graph}
use Rattle.lane_sim.specs.declared.stimulus.InputSequence.{InputSequence}
use Rattle.lane_sim.specs.Blocks.{in_lane}
use Rattle.lane_sim.specs.Steps.{AreAt}
use Rattle.lane_sim.specs.Traces.{value_in}
use Rattle.witnesses.proofs.reached.are_true.Given as goal

abbrev pub invariant-loop-k : goal.invariant-loop-k
invariant-loop-k l = (g : Graph) (sequences : List InputSequence) (t : ℕ) → AreAt g sequences l.values t
    → (k : ℕ) → k < l.k → value_in g (in_lane sequences 0) t (get_or l.literals k 0) ≡ true
