use Rattle.witness_circuits.proofs.RunLaws.{shows-good}
use Rattle.witness_circuits.proofs.laws.witness_law.Goals as goal

pub returns : goal.returns
returns c = shows-good
