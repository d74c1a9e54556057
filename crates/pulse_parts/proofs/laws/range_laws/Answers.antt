use Rattle.pulse_parts.proofs.laws.range_laws.Goals as goal
use Rattle.pulse_parts.proofs.MarkLaws.{range_laws}

pub returns : goal.returns
returns c = range_laws
