use Rattle.std.proofs.Common.{sym, ◌∙◌}
use Rattle.binary_file.proofs.TextLaws.{comment_begins, other_begins, text_is}
use Rattle.binary_file.proofs.opened.take_text.Goals as goal

pub returns-in-Comment : goal.returns-in-Comment
returns-in-Comment c h raw bytes is here line_is = (comment_begins bytes (sym (text_is c.args.line bytes line_is) ∙ sym c.text.ensures ∙ c.in-Comment.is), is)

pub returns-in-Ok : goal.returns-in-Ok
returns-in-Ok c h raw bytes is here line_is =
    let said = c.text.ensures ∙ text_is c.args.line bytes line_is in
    let other = other_begins bytes (λ e. c.in_default.not-Comment (said ∙ e)) in
    (other, c.in-Ok.ensures h raw bytes is here other said)

pub returns-in-Err : goal.returns-in-Err
returns-in-Err c h raw bytes is here line_is =
    let said = c.text.ensures ∙ text_is c.args.line bytes line_is in
    let other = other_begins bytes (λ e. c.in_default.not-Comment (said ∙ e)) in
    (other, c.in-Err.ensures h raw bytes is here other said)
