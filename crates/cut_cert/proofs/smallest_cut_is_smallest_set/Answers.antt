use Rattle.cut_cert.proofs.SmallestSetLaws.{smallest_cut_is_smallest_set-law}
use Rattle.cut_cert.proofs.smallest_cut_is_smallest_set.Goals as goal

pub returns : goal.returns
returns c = smallest_cut_is_smallest_set-law
