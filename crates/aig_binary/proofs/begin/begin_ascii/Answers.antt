use Rattle.std.proofs.Common.{[], ◌++◌}
use Rattle.aig_binary.proofs.AnswerLaws.{fed_ascii}
use Rattle.aig_binary.proofs.begin.begin_ascii.Goals as goal

pub returns-clause-holds : goal.returns-clause-holds
returns-clause-holds c =
    (c.requires, c.feed-answer.ensures.holds c.args.begun.now (c.feed.ensures.holds [] c.new-ascii.ensures.holds))

pub returns-clause-fed : goal.returns-clause-fed
returns-clause-fed c =
    fed_ascii c.feed-answer.result (c.args.begun.now ++ c.args.piece.now) c.requires
    (c.feed-answer.ensures.fed c.args.begun.now (c.feed.ensures.holds [] c.new-ascii.ensures.holds))
