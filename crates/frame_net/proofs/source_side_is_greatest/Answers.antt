use Rattle.frame_net.proofs.source_side_is_greatest.Goals as goal
use Rattle.frame_net.proofs.TheoryCutLaws.{source_side_greatest}

pub returns : goal.returns
returns c = source_side_greatest
