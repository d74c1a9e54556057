use Rattle.std.proofs.Common.{ℕ, ◌≡◌, ◌<◌, true, Some, None, get_or, slice_get}
use Rattle.std.specs.List.{list_all}
use Rattle.lane_sim.specs.Blocks.{in_lane}
use Rattle.lane_sim.specs.Steps.{AreFor, HoldsAt}
use Rattle.lane_sim.specs.Traces.{inputs_of, choice_of}
use Rattle.witnesses.specs.declared.witness.Property.{Property}
use Rattle.witnesses.specs.Found.{IsFoundBelow}
use Rattle.witnesses.specs.Reaching.{constraint_row}
use Rattle.witnesses.proofs.reached.note_steps.Given as goal

abbrev pub invariant-loop-step : goal.invariant-loop-step
invariant-loop-step l = record {
  state : HoldsAt l.circuit.aig l.sequences l.state l.step;
  values : AreFor l.circuit.aig l.values;
  constrained : (u : ℕ) → u < l.step → list_all (λ b. b) (constraint_row l.circuit (inputs_of (in_lane l.sequences 0)) (choice_of (in_lane l.sequences 0)) u) ≡ true;
  found : (i : ℕ) (p : Property) → slice_get l.properties i ≡ Some p → IsFoundBelow l.circuit (in_lane l.sequences 0) l.step p (get_or l.found i None);
}
