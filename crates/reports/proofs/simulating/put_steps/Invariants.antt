use Rattle.std.proofs.Common.{◌≡◌}
use Rattle.std.specs.List.{flat_map, range_with_len}
use Rattle.aig_graph.specs.Streams.{property_literals}
use Rattle.counted_io.specs.Buffered.{Puts}
use Rattle.lane_sim.specs.Blocks.{in_lane}
use Rattle.lane_sim.specs.Steps.{AreFor, HoldsAt}
use Rattle.lane_sim.specs.Traces.{value_in}
use Rattle.reports.specs.Simulating.{step_of}
use Rattle.reports.proofs.simulating.put_steps.Given as goal

abbrev pub invariant-loop-step : goal.invariant-loop-step
invariant-loop-step g l = record {
  literals : l.room.literals.items ≡ property_literals l.circuit.props;
  state : HoldsAt l.circuit.aig l.sequences l.room.state l.step;
  values : AreFor l.circuit.aig l.room.values;
  text : Puts g.W.CountedWrite.output l.initial.out l.out
      (flat_map (λ t. step_of (value_in l.circuit.aig (in_lane l.sequences 0) t) (property_literals l.circuit.props)) (range_with_len 0 l.step));
}
