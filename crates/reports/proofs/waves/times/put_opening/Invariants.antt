use Rattle.std.specs.Prelude.{◌*◌, length, min}
use Rattle.std.specs.List.{flat_map, range_with_len}
use Rattle.counted_io.specs.Buffered.{Puts}
use Rattle.lane_sim.specs.Traces.{trace}
use Rattle.reports.specs.waves.Dumps.{values_of}
use Rattle.reports.specs.waves.Moments.{HasRoom, HasStates, IsAt}
use Rattle.reports.proofs.waves.times.put_opening.Given as goal

abbrev pub invariant-loop-block : goal.invariant-loop-block
invariant-loop-block g l = record {
  room : HasStates l.shown.circuit.now l.shown.sequences.now (IsAt l.shown.circuit.now l.shown.sequences.now 0) (HasRoom l.shown.circuit.now) l.block l.room;
  text : Puts g.W.CountedWrite.output l.fn.out l.out
      (flat_map (values_of (trace l.shown.circuit.now l.shown.sequences.now) l.shown.places 0) (range_with_len 0 (min (256 * l.block) (length l.shown.sequences.now))));
}
