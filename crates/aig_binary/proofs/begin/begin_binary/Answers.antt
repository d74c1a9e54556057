use Rattle.std.proofs.Common.{[], ◌++◌}
use Rattle.aig_binary.proofs.AnswerLaws.{fed_binary}
use Rattle.aig_binary.proofs.begin.begin_binary.Goals as goal

pub returns-clause-holds : goal.returns-clause-holds
returns-clause-holds c =
    let begun = c.feed.ensures.held [] c.new-binary.ensures.holds in
    let all = c.feed-answer.ensures.held c.args.begun.now begun.0 in
    (c.requires, all.0)

pub returns-clause-fed : goal.returns-clause-fed
returns-clause-fed c =
    let begun = c.feed.ensures.held [] c.new-binary.ensures.holds in
    let all = c.feed-answer.ensures.held c.args.begun.now begun.0 in
    fed_binary c.feed-answer.result (c.args.begun.now ++ c.args.piece.now) c.requires all.1
