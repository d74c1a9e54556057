use Rattle.ascii_file.proofs.CycleLaws.{cycle_law, exists_law}
use Rattle.ascii_file.proofs.order.laws.cycle_laws.Goals as goal

pub returns-clause-computed : goal.returns-clause-computed
returns-clause-computed c = cycle_law

pub returns-clause-exists : goal.returns-clause-exists
returns-clause-exists c = exists_law
