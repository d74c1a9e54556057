use Rattle.std.proofs.Common.{ℕ, ◌≡◌, ◌<◌, ◌≤◌, None, List, get_or, map}
use Rattle.aig_graph.specs.Graph.{Graph}
use Rattle.lane_sim.specs.declared.stimulus.InputSequence.{InputSequence}
use Rattle.lane_sim.specs.Blocks.{in_lane}
use Rattle.lane_sim.specs.Steps.{AreAt}
use Rattle.lane_sim.specs.Traces.{value_in}
use Rattle.witnesses.specs.declared.witness.Property.TheVariants.{Bad}
use Rattle.witnesses.specs.Found.{noted}
use Rattle.witnesses.proofs.reached.note_step.Given as goal

abbrev pub invariant-loop-i : goal.invariant-loop-i
invariant-loop-i l = record {
  done : (g : Graph) (sequences : List InputSequence) (t : ℕ) → AreAt g sequences l.values t → (i : ℕ) → i < l.i
      → get_or l.found i None ≡ noted (map (value_in g (in_lane sequences 0) t) l.bad) l.step (get_or l.properties i (Bad 0)) (get_or l.fn.found i None);
  rest : (i : ℕ) → l.i ≤ i → get_or l.found i None ≡ get_or l.fn.found i None;
}
