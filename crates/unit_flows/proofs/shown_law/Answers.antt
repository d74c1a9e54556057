use Rattle.unit_flows.proofs.ShownLaws.{shown-law}
use Rattle.unit_flows.proofs.shown_law.Goals as goal

pub returns : goal.returns
returns c = shown-law
