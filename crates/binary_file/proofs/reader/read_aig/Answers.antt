use Rattle.std.proofs.Common.{[]}
use Rattle.binary_file.proofs.reader.read_aig.Goals as goal

pub returns : goal.returns
returns c = c.read_rest-circuit.ensures [] c.new-reader.ensures.holds
