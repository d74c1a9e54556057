use Rattle.commands.proofs.AuditLaws.{range_of_guessed, range_of_plain}
use Rattle.commands.proofs.replaying.replay_unsaid.Goals as goal

pub returns-then-merge-clause-in_range : goal.returns-then-merge-clause-in_range
returns-then-merge-clause-in_range c = range_of_guessed _ _ _ _ c.replay_guessed.result c.requires c.replay_guessed.ensures

pub returns-else-merge-clause-in_range : goal.returns-else-merge-clause-in_range
returns-else-merge-clause-in_range c = range_of_plain _ _ _ _ c.replay_blocks.result c.requires c.replay_blocks.ensures
