use Rattle.std.proofs.Common.{length}
use Rattle.lane_sim.specs.Comparing.{Compares, rows_by, steps_below, steps_of}
use Rattle.lane_sim.specs.Runs.{IsRunOf}
use Rattle.lane_sim.proofs.difference.runs_difference.Given as goal

abbrev pub invariant-loop-step : goal.invariant-loop-step
invariant-loop-step l = record {
  first : IsRunOf l.a.circuit.now l.a.sequences.now l.step l.first;
  second : IsRunOf l.b.circuit.now l.b.sequences.now l.step l.second;
  found : Compares 0 (length l.a.sequences.now) (steps_below l.step (steps_of l.a.sequences.now)) (rows_by l.a.circuit.now l.a.sequences.now)
      (rows_by l.b.circuit.now l.b.sequences.now) l.found;
}
