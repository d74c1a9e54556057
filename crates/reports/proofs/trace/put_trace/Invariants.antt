use Rattle.std.specs.List.{flat_map, range_with_len}
use Rattle.counted_io.specs.Buffered.{Puts}
use Rattle.reports.specs.Traces.{sequence_at}
use Rattle.reports.proofs.trace.put_trace.Given as goal

abbrev pub invariant-loop-sequence : goal.invariant-loop-sequence
invariant-loop-sequence g l = Puts g.W.CountedWrite.output l.fn.out l.out (flat_map (sequence_at l.trace) (range_with_len 0 l.sequence))
