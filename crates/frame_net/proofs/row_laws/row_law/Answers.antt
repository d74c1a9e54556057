use Rattle.frame_net.proofs.row_laws.row_law.Goals as goal
use Rattle.frame_net.proofs.SparseRowLaws.{push-is_sparse}

pub returns : goal.returns
returns c = push-is_sparse
