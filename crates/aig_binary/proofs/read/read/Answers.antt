use Rattle.std.proofs.Common.{[]}
use Rattle.aig_binary.proofs.read.read.Goals as goal

pub returns : goal.returns
returns c = c.read_rest-circuit.ensures [] c.new-reader.ensures.holds
