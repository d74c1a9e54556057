use Rattle.aig_binary.proofs.SpellingLaws.{the_spelling_law}
use Rattle.aig_binary.proofs.laws.spelling_law.Goals as goal

pub returns : goal.returns
returns c = the_spelling_law
