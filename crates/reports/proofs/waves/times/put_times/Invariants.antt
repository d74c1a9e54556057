use Rattle.std.specs.List.{flat_map, range_with_len}
use Rattle.counted_io.specs.Buffered.{Puts}
use Rattle.lane_sim.specs.Traces.{trace}
use Rattle.reports.specs.waves.Dumps.{time_text}
use Rattle.reports.specs.waves.Moments.{IsRoomAt}
use Rattle.reports.proofs.waves.times.put_times.Given as goal

abbrev pub invariant-loop-step : goal.invariant-loop-step
invariant-loop-step g l = record {
  room : IsRoomAt l.shown.circuit.now l.shown.sequences.now l.step l.room;
  text : Puts g.W.CountedWrite.output l.fn.out l.out
      (flat_map (time_text (trace l.shown.circuit.now l.shown.sequences.now) l.shown.places) (range_with_len 1 l.step));
}
