use Rattle.certificate_files.proofs.FileTripLaws.{the_round_trip_law}
use Rattle.certificate_files.proofs.laws.round_trip_law.Goals as goal

pub returns : goal.returns
returns c = the_round_trip_law
