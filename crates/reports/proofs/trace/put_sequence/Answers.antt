use Rattle.std.proofs.Common.{[], ◌∷◌}
use Rattle.counted_io.proofs.BufferedLaws.{puts-then}
use Rattle.reports.specs.Traces.{sequence_at}
use Rattle.reports.proofs.trace.put_sequence.Goals as goal

pub returns : goal.returns
unfolding sequence_at
returns g c = puts-then {xs = 61 ∷ 10 ∷ []} c.put.ensures c.put_steps.ensures
