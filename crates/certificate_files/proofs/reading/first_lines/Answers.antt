use Rattle.std.proofs.Common.{inr, sym, ◌∙◌}
use Rattle.certificate_files.proofs.FileLaws.{first_missing, first_version, second_version, third_version}
use Rattle.certificate_files.proofs.reading.first_lines.Goals as goal

pub returns-in_default : goal.returns-in_default
returns-in_default c whole = inr (first_missing c.args.lines.now.end c.args.lines.now.rest.now c.in_default.ensures.err.1)

pub returns-then-is_word : goal.returns-then-is_word
returns-then-is_word c whole =
    let lines = c.args.lines.now in
    rw c.in-Ok.ensures.end (first_version lines.end lines.rest.now _ _ c.in-Ok.ensures.ok.1 whole (sym c.is_word.ensures ∙ c.if-is_word.true))

pub returns-then-is_word-2 : goal.returns-then-is_word-2
returns-then-is_word-2 c whole =
    let lines = c.args.lines.now in
    let second = second_version lines.end lines.rest.now _ _ c.in-Ok.ensures.ok.1 whole (sym c.is_word.ensures ∙ c.if-is_word.false) (sym c.is_word-2.ensures ∙ c.if-is_word-2.true) in
    rw second (rw c.in-Ok.ensures.end at c.head_from.ensures)

pub returns-then-is_word-3 : goal.returns-then-is_word-3
returns-then-is_word-3 c whole =
    let lines = c.args.lines.now in
    let third = third_version lines.end lines.rest.now _ _ c.in-Ok.ensures.ok.1 whole (sym c.is_word.ensures ∙ c.if-is_word.false) (sym c.is_word-2.ensures ∙ c.if-is_word-2.false) (sym c.is_word-3.ensures ∙ c.if-is_word-3.true) in
    rw third (rw c.in-Ok.ensures.end at c.head_from-then-is_word-3.ensures)
