use Rattle.frame_net.proofs.LeastCutLaws.{greatest_cut_is_greatest_set-law}
use Rattle.frame_net.proofs.cut_laws.greatest_cut_is_greatest_set.Goals as goal

pub returns : goal.returns
returns c = greatest_cut_is_greatest_set-law
