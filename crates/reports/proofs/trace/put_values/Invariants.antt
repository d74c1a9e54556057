use Rattle.std.specs.List.{flat_map, range_with_len}
use Rattle.counted_io.specs.Buffered.{Puts}
use Rattle.reports.specs.Traces.{digit_at}
use Rattle.reports.proofs.trace.put_values.Given as goal

abbrev pub invariant-loop-place : goal.invariant-loop-place
invariant-loop-place g l = Puts g.W.CountedWrite.output l.fn.out l.out (flat_map (digit_at l.trace l.sequence l.step) (range_with_len 0 l.place))
