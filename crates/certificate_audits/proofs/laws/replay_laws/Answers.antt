use Rattle.certificate_audits.proofs.LevelLaws.{merged-replay-levels, replay-levels}
use Rattle.certificate_audits.proofs.ReplayLaws.{merged-replay-streams, replay-streams}
use Rattle.certificate_audits.proofs.laws.replay_laws.Goals as goal

pub returns-clause-streams : goal.returns-clause-streams
returns-clause-streams c = replay-streams

pub returns-clause-merged : goal.returns-clause-merged
returns-clause-merged c = merged-replay-streams

pub returns-clause-levels : goal.returns-clause-levels
returns-clause-levels c = replay-levels

pub returns-clause-merged_levels : goal.returns-clause-merged_levels
returns-clause-merged_levels c = merged-replay-levels
