use Rattle.binary_file.proofs.DeltaLaws.{delta_laws, ends_once}
use Rattle.binary_file.proofs.laws.delta_laws.Goals as goal

pub returns-clause-spelled : goal.returns-clause-spelled
returns-clause-spelled c = delta_laws

pub returns-clause-once : goal.returns-clause-once
returns-clause-once c = ends_once
