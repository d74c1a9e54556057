use Rattle.std.specs.List.{flat_map, range_with_len}
use Rattle.counted_io.specs.Buffered.{Puts}
use Rattle.reports.specs.Traces.{step_at}
use Rattle.reports.proofs.trace.put_steps.Given as goal

abbrev pub invariant-loop-step : goal.invariant-loop-step
invariant-loop-step g l = Puts g.W.CountedWrite.output l.fn.out l.out (flat_map (step_at l.trace l.sequence) (range_with_len 0 l.step))
