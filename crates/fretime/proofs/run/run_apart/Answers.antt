use Rattle.fretime.proofs.RunLaws.{of_usage}
use Rattle.fretime.proofs.run.run_apart.Goals as goal

pub returns-in-Some : goal.returns-in-Some
returns-in-Some g c = of_usage c.refuse_line.result _ c.refuse_line.ensures

pub returns-in-None : goal.returns-in-None
returns-in-None g c = c.run_with_names.ensures
