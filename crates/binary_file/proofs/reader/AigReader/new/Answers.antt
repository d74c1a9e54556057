use Rattle.std.proofs.Common.{refl}
use Rattle.binary_file.specs.Reading.{feed}
use Rattle.binary_file.proofs.reader.AigReader.new.Goals as goal

pub returns-clause-holds : goal.returns-clause-holds
unfolding feed
returns-clause-holds c = record { count = λ sound. refl; stage = record { reading = refl; line_is = c.new.ensures } }
