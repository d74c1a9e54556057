use Rattle.std.proofs.Common.{Ok, ◌∙◌, sym, ap}
use Rattle.std.proofs.lemmas.Result.{err_from_is_err_and}
use Rattle.file_words.proofs.ReadingLaws.{line_fails, line_taken, no_lines}
use Rattle.lane_sim.specs.Stimuli.{read_line}
use Rattle.lane_sim.proofs.read.read_stimulus.Goals as goal

pub returns-in_err-read_line : goal.returns-in_err-read_line
returns-in_err-read_line c =
    let p = err_from_is_err_and c.from_residual.result c.from_residual.ensures.1 in
    let line = c.in-Some.ensures.line in
    rw (p.1, p.2) (line_fails (read_line c.args.inputs c.args.free) _ _ _ _ _ _ _ _ line.1 line.0 c.loop-line.invariant c.in_err-read_line.ensures)

pub loop-line-preserved : goal.loop-line-preserved
loop-line-preserved c =
    let line = c.in-Some.ensures.line in
    c.loop-line.invariant ∙ line_taken (read_line c.args.inputs c.args.free) _ _ _ _ _ _ _ _ c.in-Some.ensures.within line.1 line.0 c.in-Some.ensures.end c.in_ok-read_line.ensures

pub returns : goal.returns
returns c = c.loop-line.invariant ∙ no_lines (read_line c.args.inputs c.args.free) _ _ _ c.in_default.ensures.line ∙ ap Ok (sym c.new.ensures)
