use Rattle.std.proofs.Common.{length}
use Rattle.binary_file.proofs.deltas.decode.+value.Given as goal

abbrev pub decreases-value : goal.decreases-value
decreases-value l = length l.before.now
