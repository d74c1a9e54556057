use Rattle.frame_net.proofs.total_is_kept.Goals as goal
use Rattle.frame_net.proofs.TotalLaws.{total_kept, inflow_source}

pub returns : goal.returns
returns c = λ n s ok. (total_kept n s, inflow_source n s ok)
