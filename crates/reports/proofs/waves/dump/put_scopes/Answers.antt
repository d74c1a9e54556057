use Rattle.reports.specs.waves.Dumps.{scope_text}
use Rattle.reports.proofs.WaveDumpLaws.{puts-up}
use Rattle.reports.proofs.waves.dump.put_scopes.Goals as goal

pub loop-sequence-preserved : goal.loop-sequence-preserved
loop-sequence-preserved g c = puts-up (scope_text c.args.names.now) c.loop-sequence.sequence c.loop-sequence.invariant c.put_scope.ensures
