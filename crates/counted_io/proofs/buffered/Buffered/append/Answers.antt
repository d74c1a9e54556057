use Rattle.counted_io.proofs.BufferedLaws.{puts-waits}
use Rattle.counted_io.proofs.buffered.Buffered.append.Goals as goal

pub returns-clause-puts : goal.returns-clause-puts
returns-clause-puts g c = puts-waits _ _ _ c.append.ensures
