use Rattle.map_circuits.proofs.ReadFunctionLaws.{merged-step}
use Rattle.map_circuits.proofs.laws.merged_step_law.Goals as goal

pub returns : goal.returns
returns c = λ a d e held reads kept g h functions old new. merged-step a d e held reads kept g h functions old new
