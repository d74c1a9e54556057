use Rattle.std.proofs.Common.{inr}
use Rattle.pulse.proofs.workers.part_pushes.Goals as goal

pub returns-in_ok-parts-clause-shares : goal.returns-in_ok-parts-clause-shares
returns-in_ok-parts-clause-shares c = inr c.in_ok-parts.ensures.shares
