use Rattle.binary_file.proofs.FileLaws.{the_reading_law}
use Rattle.binary_file.proofs.laws.reading_law.Goals as goal

pub returns : goal.returns
returns c = the_reading_law
