use Rattle.map_circuits.proofs.MergeStepLaws.{merging-step}
use Rattle.map_circuits.proofs.laws.merging_step_law.Goals as goal

pub returns : goal.returns
returns c = λ a d e held reads kept g h functions old new. merging-step a d e held reads kept g h functions old new
