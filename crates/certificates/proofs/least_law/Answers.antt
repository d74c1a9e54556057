use Rattle.certificates.proofs.RouteLaws.{least-law}
use Rattle.certificates.proofs.least_law.Goals as goal

pub returns : goal.returns
returns c = least-law
