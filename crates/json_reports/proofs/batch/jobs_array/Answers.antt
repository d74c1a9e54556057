use Rattle.json_reports.specs.Batches.{job_data}
use Rattle.json_reports.proofs.ArrayLaws.{pushed, whole}
use Rattle.json_reports.proofs.batch.jobs_array.Goals as goal

pub loop-report-preserved : goal.loop-report-preserved
loop-report-preserved c = pushed job_data _ _ _ _ _ c.loop-report-test.true c.loop-report.invariant c.in_ok-object.ensures c.in_ok-push.ensures.ok

pub returns : goal.returns
returns c = whole job_data _ _ c.loop-report.list c.loop-report-test.false c.loop-report.invariant
