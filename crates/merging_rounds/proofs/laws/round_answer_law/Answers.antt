use Rattle.merging_rounds.proofs.OneLaws.{rounds-one}
use Rattle.merging_rounds.proofs.laws.round_answer_law.Goals as goal

pub returns : goal.returns
returns c = rounds-one
