use Rattle.std.proofs.Common.{◌+◌, length}
use Rattle.aag_text.proofs.TakingLaws.{comment_goes_on}
use Rattle.aag_text.proofs.items.Items.take_line.Goals as goal

pub returns-in-Comment : goal.returns-in-Comment
returns-in-Comment c state line stand =
    let at = c.args.self.now.at in
    comment_goes_on c.args.self.now.sections c.args.self.now.line c.replace.new.dest at (at + length line + 1) state line c.in-Comment.ensures.value c.in-Comment.ensures.after stand
