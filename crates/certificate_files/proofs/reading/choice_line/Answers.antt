use Rattle.std.proofs.Common.{inr, sym, ◌∙◌, length, ◌-◌}
use Rattle.std.proofs.lemmas.Result.{err_from_is_err_and}
use Rattle.certificate_files.proofs.FileLaws.{choice_missing, choice_chosen}
use Rattle.certificate_files.proofs.reading.choice_line.Goals as goal

pub returns-in_err-line-clause-reads : goal.returns-in_err-line-clause-reads
returns-in_err-line-clause-reads c lists =
    let p = err_from_is_err_and c.from_residual.result c.from_residual.ensures.1 in
    let missing = c.in_err-line.ensures.err in
    let lines = c.args.lines.now in
    rw (p.1, p.2, missing.0) (inr (choice_missing lists (lines.end - length lines.rest.now) lines.end lines.rest.now missing.1))

pub returns-in-Some-clause-reads : goal.returns-in-Some-clause-reads
returns-in-Some-clause-reads c lists =
    let lines = c.args.lines.now in
    rw c.in_ok-line.ensures.end
    (choice_chosen lists lines.end lines.rest.now _ _ c.in-Some.choice c.in_ok-line.ensures.ok.1 c.in_ok-line.ensures.within (sym c.choice.ensures ∙ c.in-Some.is))
