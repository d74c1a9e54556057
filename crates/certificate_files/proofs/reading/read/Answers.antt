use Rattle.std.proofs.Common.{sym, ap, ◌∙◌, length}
use Rattle.std.proofs.lemmas.Result.{err_from_is_err_and}
use Rattle.file_words.proofs.AnsweringLaws.{Fails-same}
use Rattle.certificate_files.proofs.FileLaws.{text_read}
use Rattle.certificate_files.proofs.reading.read.Goals as goal

pub returns-in_err-head : goal.returns-in_err-head
returns-in_err-head c =
    let p = err_from_is_err_and c.from_residual.result c.from_residual.ensures.1 in
    let new = c.new-lines.ensures in
    rw (p.1, p.2) (Fails-same _ _ _ (text_read _ _ c.args.bytes.now new.rest new.end) (c.in_err-head.ensures (ap length new.rest ∙ sym new.end)))

pub returns-in_err-parts : goal.returns-in_err-parts
returns-in_err-parts c =
    let p = err_from_is_err_and c.from_residual-in_err-parts.result c.from_residual-in_err-parts.ensures.1 in
    let new = c.new-lines.ensures in
    let head = c.in_ok-head.head in
    let began = sym (text_read _ _ c.args.bytes.now new.rest new.end) ∙ c.in_ok-head.ensures (ap length new.rest ∙ sym new.end) in
    rw (p.1, p.2) (Fails-same _ _ _ (sym began) (c.in_err-parts.ensures head.choice))

pub returns : goal.returns
returns c =
    let new = c.new-lines.ensures in
    let head = c.in_ok-head.head in
    sym (text_read _ _ c.args.bytes.now new.rest new.end) ∙ c.in_ok-head.ensures (ap length new.rest ∙ sym new.end) ∙ c.in_ok-parts.ensures head.choice
