use Rattle.pulse_parts.specs.Distances.{distance}
use Rattle.pulse_parts.proofs.distance_laws.distance_law.Goals as goal
use Rattle.pulse_parts.proofs.DistanceLaws.{distance_is, one_distance}

pub returns : goal.returns
returns c = λ n s. (distance_is n s, λ d p v h. one_distance n s d (distance n s) p (distance_is n s) v h)
