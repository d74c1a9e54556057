use Rattle.std.proofs.Common.{arith}
use Rattle.aag_text.proofs.HeaderLaws.{used-zero, used-other}
use Rattle.aag_text.proofs.counts.used.Goals as goal
use Rattle.aag_text.proofs.counts.used.Goals.{then-count-ne0, else-count-ne0}

pub loop-k-preserved : goal.loop-k-preserved
loop-k-preserved c =
    elim c.if-count-ne0.branch [
      | then-count-ne0 w ↦ rw w.used-is (omega arith, used-other _ _ c.loop-k-test.true w.if-count-ne0.true)
      | else-count-ne0 w ↦ rw w.used-is (omega arith, used-zero _ _ _ c.loop-k-test.true c.loop-k.invariant.1 w.if-count-ne0.false)
    ]
