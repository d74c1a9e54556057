use Rattle.std.proofs.Common.{◌∙◌, map}
use Rattle.std.proofs.lemmas.Result.{err_from_is_err_and}
use Rattle.circuit_files.specs.Entries.{paths}
use Rattle.file_words.proofs.ReadingLaws.{line_fails, line_taken, no_lines}
use Rattle.circuit_files.specs.Lists.{read_line}
use Rattle.circuit_files.proofs.read.read_list.Goals as goal

pub returns-in_err-read_line : goal.returns-in_err-read_line
returns-in_err-read_line c =
    let p = err_from_is_err_and c.from_residual.result c.from_residual.ensures.1 in
    let line = c.in-Some.ensures.line in
    rw (p.1, p.2) (line_fails read_line _ _ (map paths c.loop-line.entries.items) _ _ _ _ _ line.1 line.0 c.loop-line.invariant c.in_err-read_line.ensures)

pub loop-line-preserved : goal.loop-line-preserved
loop-line-preserved c =
    let line = c.in-Some.ensures.line in
    c.loop-line.invariant ∙ line_taken read_line _ _ _ _ _ _ _ _ c.in-Some.ensures.within line.1 line.0 c.in-Some.ensures.end c.in_ok-read_line.ensures

pub returns : goal.returns
returns c = c.loop-line.invariant ∙ no_lines read_line _ _ _ c.in_default.ensures.line
