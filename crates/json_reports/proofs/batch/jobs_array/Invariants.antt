use Rattle.std.proofs.Common.{◌≡◌, map, take}
use Rattle.serde_json.specs.View.{view}
use Rattle.json_reports.specs.Batches.{job_data}
use Rattle.json_reports.proofs.batch.jobs_array.Given as goal

abbrev pub invariant-loop-report : goal.invariant-loop-report
invariant-loop-report l = map view l.list.items ≡ map job_data (take l.report-index l.reports)
