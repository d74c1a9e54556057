use Rattle.frame_net.proofs.SetCutLaws.{closed_sets_are_cuts-law}
use Rattle.frame_net.proofs.cut_laws.closed_sets_are_cuts.Goals as goal

pub returns : goal.returns
returns c = closed_sets_are_cuts-law
