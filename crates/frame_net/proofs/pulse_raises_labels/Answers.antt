use Rattle.frame_net.proofs.pulse_raises_labels.Goals as goal
use Rattle.frame_net.proofs.PulseLaws.{next_label-ge, stuck-rises}

pub returns : goal.returns
returns c = λ n s ok v h. (next_label-ge n s ok v h, stuck-rises n s ok v h)
