use Rattle.std.specs.Prelude.{◌*◌}
use Rattle.std.specs.List.{flat_map, range_with_len}
use Rattle.counted_io.specs.Buffered.{Puts}
use Rattle.reports.specs.waves.Dumps.{values_of}
use Rattle.reports.specs.waves.Moments.{trace_of}
use Rattle.reports.proofs.waves.values.put_block.Given as goal

abbrev pub invariant-loop-lane : goal.invariant-loop-lane
invariant-loop-lane g l =
    Puts g.W.CountedWrite.output l.fn.out l.out (flat_map (values_of (trace_of l.moment) l.places l.moment.time) (range_with_len (256 * l.block) l.lane))
