use Rattle.fretime.proofs.EndLaws.{of_files}
use Rattle.fretime.proofs.batch.finish_or_refuse.Goals as goal

pub returns-in-Ok : goal.returns-in-Ok
returns-in-Ok g c = of_files c.args.task.now.json c.in-Ok.ended _ _ _ c.in-Ok.ensures.ok
