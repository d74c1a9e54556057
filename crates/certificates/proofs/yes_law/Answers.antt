use Rattle.certificates.proofs.RouteLaws.{yes-law}
use Rattle.certificates.proofs.yes_law.Goals as goal

pub returns : goal.returns
returns c = yes-law
