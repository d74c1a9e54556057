use Rattle.binary_file.proofs.FeedLaws.{comment_taken}
use Rattle.binary_file.proofs.items.Items.feed_some.Goals as goal

pub returns-in-Comment-clause-fed : goal.returns-in-Comment-clause-fed
returns-in-Comment-clause-fed c state offset stands place =
    comment_taken c.args.self.now.sections c.args.self.now.at c.args.end offset c.args.self.now.opened c.replace.new.dest state c.args.piece.now c.in-Comment.ensures.value c.in-Comment.ensures.after stands place
