use Rattle.std.specs.List.{flat_map, range_with_len}
use Rattle.counted_io.specs.Buffered.{Puts}
use Rattle.reports.specs.waves.Dumps.{value_at}
use Rattle.reports.specs.waves.Moments.{trace_of}
use Rattle.reports.proofs.waves.values.put_sequence.Given as goal

abbrev pub invariant-loop-place : goal.invariant-loop-place
invariant-loop-place g l = Puts g.W.CountedWrite.output l.fn.out l.out (flat_map (value_at (trace_of l.moment) l.moment.time l.sequence) (range_with_len 0 l.place))
