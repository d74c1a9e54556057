use Rattle.std.proofs.Common.{arith, rules}
use Rattle.file_words.proofs.FirstLaws.{first_cut, first_only}
use Rattle.file_words.proofs.cutting.first_line.Goals as goal

pub returns-in-Some : goal.returns-in-Some
returns-in-Some c = first_cut _ _ _ c.in-Some.ensures

pub returns-in-None : goal.returns-in-None
returns-in-None c = first_only _ _ (omega arith) c.in-None.ensures (search rules)
