use Rattle.clean.proofs.FrameLaws.{nothing_to_clean}
use Rattle.clean.proofs.laws.frame_law.Goals as goal

pub returns : goal.returns
returns c = nothing_to_clean
