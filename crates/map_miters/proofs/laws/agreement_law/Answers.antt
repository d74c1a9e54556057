use Rattle.map_miters.proofs.WitnessLaws.{shows-agreement}
use Rattle.map_miters.proofs.laws.agreement_law.Goals as goal

pub returns : goal.returns
returns c = shows-agreement
