use Rattle.aig_binary.proofs.RoundTripLaws.{the_round_trip_law}
use Rattle.aig_binary.proofs.laws.round_trip_law.Goals as goal

pub returns : goal.returns
returns c = the_round_trip_law
