use Rattle.std.proofs.Common.{◌∙◌}
use Rattle.std.proofs.lemmas.Result.{err_from_is_err_and}
use Rattle.file_words.proofs.ReadingLaws.{line_fails, line_taken, no_lines}
use Rattle.command_endings.specs.HeldNames.{texts_of}
use Rattle.command_endings.specs.NameFiles.{with_line}
use Rattle.command_endings.proofs.name_files.push_names.Goals as goal

pub returns-in_err-push_line : goal.returns-in_err-push_line
returns-in_err-push_line c =
    let p = err_from_is_err_and c.from_residual.result c.from_residual.ensures.1 in
    let line = c.in-Some.ensures.line in
    rw (p.1, p.2) (line_fails with_line _ _ (texts_of c.loop-line.names.items) _ _ _ _ _ line.1 line.0 c.loop-line.invariant c.in_err-push_line.ensures)

pub loop-line-preserved : goal.loop-line-preserved
loop-line-preserved c =
    let line = c.in-Some.ensures.line in
    c.loop-line.invariant ∙ line_taken with_line _ _ _ _ _ _ _ _ c.in-Some.ensures.within line.1 line.0 c.in-Some.ensures.end c.in_ok-push_line.ensures

pub returns : goal.returns
returns c = c.loop-line.invariant ∙ no_lines with_line _ _ _ c.in_default.ensures.line
