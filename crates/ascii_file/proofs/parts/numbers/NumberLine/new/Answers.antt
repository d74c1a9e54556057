use Rattle.ascii_file.proofs.RowLaws.{finished-start}
use Rattle.ascii_file.proofs.parts.numbers.NumberLine.new.Goals as goal

pub returns : goal.returns
returns c rest = finished-start rest
