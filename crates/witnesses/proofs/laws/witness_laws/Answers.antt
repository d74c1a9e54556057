use Rattle.witnesses.proofs.StreamLaws.{reaches_alike, is_carried_back}
use Rattle.witnesses.proofs.laws.witness_laws.Goals as goal

pub returns-clause-alike : goal.returns-clause-alike
returns-clause-alike c = reaches_alike

pub returns-clause-carried : goal.returns-clause-carried
returns-clause-carried c = is_carried_back
