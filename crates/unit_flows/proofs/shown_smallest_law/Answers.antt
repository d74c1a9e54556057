use Rattle.unit_flows.proofs.NearLaws.{shown-smallest-law}
use Rattle.unit_flows.proofs.shown_smallest_law.Goals as goal

pub returns : goal.returns
returns c = shown-smallest-law
