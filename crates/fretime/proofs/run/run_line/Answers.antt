use Rattle.fretime.proofs.RunLaws.{of_usage}
use Rattle.fretime.proofs.run.run_line.Goals as goal

pub returns-in-Ok : goal.returns-in-Ok
returns-in-Ok g c = c.run_apart.ensures

pub returns-in-Err : goal.returns-in-Err
returns-in-Err g c = of_usage c.refuse_line.result _ c.refuse_line.ensures
