use Rattle.frame_net.proofs.start_is_sound.Goals as goal
use Rattle.frame_net.proofs.StartLaws.{start_sound}

pub returns : goal.returns
returns c = start_sound
