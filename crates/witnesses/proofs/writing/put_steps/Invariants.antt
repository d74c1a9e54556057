use Rattle.std.proofs.Common.{take}
use Rattle.std.specs.List.{flat_map}
use Rattle.counted_io.specs.Buffered.{Puts}
use Rattle.witnesses.specs.Texts.{row_text}
use Rattle.witnesses.proofs.writing.put_steps.Given as goal

abbrev pub invariant-loop-step : goal.invariant-loop-step
invariant-loop-step g l = Puts g.W.CountedWrite.output l.fn.out l.out (flat_map row_text (take l.step-index l.steps))
