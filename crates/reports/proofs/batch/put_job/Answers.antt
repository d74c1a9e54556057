use Rattle.counted_io.proofs.BufferedLaws.{puts-then}
use Rattle.reports.proofs.batch.put_job.Goals as goal

pub returns : goal.returns
returns g c = puts-then c.put_number.ensures c.put_report.ensures
