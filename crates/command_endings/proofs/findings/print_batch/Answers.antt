use Rattle.json_reports.specs.Batches.{batch_data}
use Rattle.circuit_files.specs.Codes.{status_of}
use Rattle.command_endings.proofs.EndingLaws.{object_ends}
use Rattle.command_endings.proofs.findings.print_batch.Goals as goal

pub returns : goal.returns
returns g c =
    let line = rw c.status.ensures at c.print_batch-printed.ensures in
    object_ends c.print_batch-printed.result _ (batch_data c.args.reports.now (status_of c.args.outcome)) _ _ _ c.ended.ensures line
