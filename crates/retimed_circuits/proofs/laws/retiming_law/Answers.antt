use Rattle.retimed_circuits.proofs.MergedRunLaws.{retiming-with-one}
use Rattle.retimed_circuits.proofs.laws.retiming_law.Goals as goal

pub returns : goal.returns
returns c = retiming-with-one
