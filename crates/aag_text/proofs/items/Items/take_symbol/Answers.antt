use Rattle.std.proofs.Common.{◌≡◌, ◌+◌, ◌&&◌, false, Bool, length, ap₂, ◌∙◌}
use Rattle.std.proofs.lemmas.Result.{err_from_is_err_and}
use Rattle.ascii_file.specs.Items.{begins_comment}
use Rattle.ascii_file.specs.parts.Symbols.{text_of}
use Rattle.aag_text.proofs.TakingLaws.{line_fails, line_taken, comment_taken, is_comment_text, no_comment_text}
use Rattle.aag_text.proofs.items.Items.take_symbol.Goals as goal

pub returns-in-Comment : goal.returns-in-Comment
returns-in-Comment c symbols bytes stands complete text =
    let at = c.args.self.now.at in
    comment_taken c.args.self.now.sections symbols at (at + length bytes + 1) bytes stands complete (is_comment_text bytes (c.in-Comment.ensures ∙ text))

pub returns-in_err-take_symbol-in_default : goal.returns-in_err-take_symbol-in_default
returns-in_err-take_symbol-in_default c symbols bytes stands complete text =
    let p = err_from_is_err_and c.from_residual.result c.from_residual.ensures.1 in
    let is_text : c.text.result ≡ text_of bytes = c.text.ensures ∙ text in
    let item : begins_comment bytes ≡ false = no_comment_text bytes (λ e. c.in_default.not-Comment (is_text ∙ e)) in
    rw (p.1, p.2) (line_fails c.args.self.now.sections symbols c.args.self.now.at bytes (ap₂ (λ (a b : Bool). a && b) complete item) _
    (c.in_err-take_symbol-in_default.ensures symbols bytes stands complete item is_text))

pub returns-in_ok-take_symbol-in_default : goal.returns-in_ok-take_symbol-in_default
returns-in_ok-take_symbol-in_default c symbols bytes stands complete text =
    let is_text : c.text.result ≡ text_of bytes = c.text.ensures ∙ text in
    let item : begins_comment bytes ≡ false = no_comment_text bytes (λ e. c.in_default.not-Comment (is_text ∙ e)) in
    line_taken c.args.self.now.sections symbols c.args.self.now.at bytes (ap₂ (λ (a b : Bool). a && b) complete item)
    c.take_symbol.new.self c.line_of.result c.section.result
    (c.in_ok-take_symbol-in_default.ensures symbols bytes stands complete item is_text)
    c.line_of.ensures.opens c.line_of.ensures.item c.section.ensures
