use Rattle.certificate_files.proofs.ReadLaws.{the_rereading_law}
use Rattle.certificate_files.proofs.laws.rereading_law.Goals as goal

pub returns : goal.returns
returns c = the_rereading_law
