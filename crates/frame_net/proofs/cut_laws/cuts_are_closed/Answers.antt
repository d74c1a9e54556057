use Rattle.frame_net.proofs.NetLaws.{cuts_are_closed-law}
use Rattle.frame_net.proofs.cut_laws.cuts_are_closed.Goals as goal

pub returns : goal.returns
returns c = cuts_are_closed-law
