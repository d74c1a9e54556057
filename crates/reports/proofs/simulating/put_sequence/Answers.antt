use Rattle.std.proofs.Common.{[], ◌∷◌}
use Rattle.counted_io.proofs.BufferedLaws.{puts-then}
use Rattle.reports.specs.Simulating.{sequence_of}
use Rattle.reports.proofs.simulating.put_sequence.Goals as goal

pub returns-clause-puts : goal.returns-clause-puts
unfolding sequence_of
returns-clause-puts g c = puts-then {xs = 61 ∷ 10 ∷ []} c.put.ensures c.put_steps.ensures.puts
