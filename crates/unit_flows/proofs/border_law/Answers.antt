use Rattle.unit_flows.proofs.ShownLaws.{border-law}
use Rattle.unit_flows.proofs.border_law.Goals as goal

pub returns : goal.returns
returns c = border-law
