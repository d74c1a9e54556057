use Rattle.std.proofs.Common.{length}
use Rattle.mapped_answers.proofs.map_text.+read_delta.Given as goal

abbrev pub decreases-read_delta : goal.decreases-read_delta
decreases-read_delta l = length l.bytes.now
