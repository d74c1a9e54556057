use Rattle.cut_cert.proofs.NearSideLaws.{near_side_is_smallest-law}
use Rattle.cut_cert.proofs.near_side_is_smallest.Goals as goal

pub returns : goal.returns
returns c = near_side_is_smallest-law
