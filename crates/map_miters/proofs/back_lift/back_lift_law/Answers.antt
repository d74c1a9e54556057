use Rattle.map_miters.proofs.BackLiftLaws.{lifts-back}
use Rattle.map_miters.proofs.back_lift.back_lift_law.Goals as goal

pub returns : goal.returns
returns c = lifts-back
