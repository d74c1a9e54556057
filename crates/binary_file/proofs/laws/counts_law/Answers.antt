use Rattle.binary_file.proofs.CountLaws.{the_counts_law}
use Rattle.binary_file.proofs.laws.counts_law.Goals as goal

pub returns : goal.returns
returns c = the_counts_law
