use Rattle.path_levels.proofs.BoundedLaws.{bounded-law}
use Rattle.path_levels.proofs.laws.bounded_law.Goals as goal

pub returns : goal.returns
returns c = bounded-law
