use Rattle.aig_binary.proofs.LimitLaws.{reads-within}
use Rattle.aig_binary.proofs.limits.read_limits_law.Goals as goal

pub returns : goal.returns
returns c = reads-within
