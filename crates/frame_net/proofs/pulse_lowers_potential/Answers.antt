use Rattle.frame_net.proofs.pulse_lowers_potential.Goals as goal
use Rattle.frame_net.proofs.PotentialLaws.{potential_falls}

pub returns : goal.returns
returns c = potential_falls
