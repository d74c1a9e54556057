use Rattle.json_reports.specs.Retimings.{frame_data}
use Rattle.json_reports.proofs.ArrayLaws.{pushed, whole}
use Rattle.json_reports.proofs.retiming.frames_array.Goals as goal

pub loop-frame-preserved : goal.loop-frame-preserved
loop-frame-preserved c = pushed frame_data _ _ _ _ _ c.loop-frame-test.true c.loop-frame.invariant c.in_ok-object.ensures c.in_ok-push.ensures.ok

pub returns : goal.returns
returns c = whole frame_data _ _ c.loop-frame.list c.loop-frame-test.false c.loop-frame.invariant
