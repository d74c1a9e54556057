use Rattle.frame_net.proofs.pulse_keeps_preflow.Goals as goal
use Rattle.frame_net.proofs.PulseLaws.{next_preflow, next_valid}

pub returns : goal.returns
returns c = λ n cap s h p ok. (next_preflow n cap s p, next_valid n s ok)
