use Rattle.fretime.proofs.ObjectLaws.{object_of_files, object_fails}
use Rattle.fretime.proofs.batch_object.print_files.Goals as goal

pub returns-clause-ok : goal.returns-clause-ok
returns-clause-ok g c = object_of_files c.args.reports.now c.end_of-ended.result _ _ c.print_batch.result c.end_of-ended.ensures c.print_batch.ensures

pub returns-clause-err : goal.returns-clause-err
returns-clause-err g c = object_fails c.args.reports.now c.end_of-ended.result _ _ c.print_batch.result c.print_batch.ensures
