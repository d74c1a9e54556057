use Rattle.pulse_parts.specs.Start.{start_res, start_excess}
use Rattle.pulse_parts.proofs.laws.start_law.Goals as goal
use Rattle.pulse_parts.proofs.StartStateLaws.{held_cut, start_agrees, start_is_sound}

pub returns : goal.returns
returns c = λ net labels qs ok able cut ls. (held_cut net (start_res net) (start_excess net) qs cut, (start_agrees net labels qs ok cut ls, start_is_sound net labels qs ok able cut ls))
