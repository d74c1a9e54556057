use Rattle.commands.proofs.AuditLaws.{range_of_given}
use Rattle.commands.proofs.replaying.replay_first.Goals as goal

pub returns-in-Some-clause-in_range : goal.returns-in-Some-clause-in_range
returns-in-Some-clause-in_range c = range_of_given _ _ _ _ _ c.replay_merged.result c.requires c.replay_merged.ensures
