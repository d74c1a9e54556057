use Rattle.retimed_circuits.proofs.RetimingLevelLaws.{retiming-levels}
use Rattle.retimed_circuits.proofs.retiming_levels.retiming_levels_law.Goals as goal

pub returns : goal.returns
returns c = retiming-levels
