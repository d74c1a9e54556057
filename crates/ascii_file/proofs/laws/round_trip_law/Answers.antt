use Rattle.ascii_file.proofs.RoundTripLaws.{the_round_trip_law}
use Rattle.ascii_file.proofs.laws.round_trip_law.Goals as goal

pub returns : goal.returns
returns c = the_round_trip_law
