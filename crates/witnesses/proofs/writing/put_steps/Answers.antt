use Rattle.counted_io.proofs.BufferedLaws.{puts-next}
use Rattle.witnesses.specs.Texts.{row_text}
use Rattle.witnesses.proofs.writing.put_steps.Goals as goal

pub loop-step-preserved : goal.loop-step-preserved
loop-step-preserved g c = puts-next row_text _ _ _ c.loop-step-test.true c.step-item.is c.loop-step.invariant (rw c.as_slice.ensures at c.put_row.ensures)
