use Rattle.json_reports.specs.Members.{count}
use Rattle.json_reports.proofs.ArrayLaws.{pushed, whole}
use Rattle.json_reports.proofs.retiming.numbers_array.Goals as goal

pub loop-number-preserved : goal.loop-number-preserved
loop-number-preserved c = pushed count _ _ _ _ _ c.loop-number-test.true c.loop-number.invariant c.from.ensures c.in_ok-push.ensures.ok

pub returns : goal.returns
returns c = whole count _ _ c.loop-number.list c.loop-number-test.false c.loop-number.invariant
