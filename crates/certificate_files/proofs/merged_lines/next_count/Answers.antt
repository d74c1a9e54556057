use Rattle.std.proofs.Common.{inr, ℕ, sym, ap, ◌∙◌}
use Rattle.std.proofs.lemmas.Result.{err_from_is_err_and}
use Rattle.certificate_files.specs.Files.{count_in_line}
use Rattle.file_words.proofs.AnsweringLaws.{Gives-exact}
use Rattle.certificate_files.proofs.MergedLaws.{count_leads, ends_uncounted}
use Rattle.certificate_files.proofs.merged_lines.next_count.Goals as goal

pub returns-clause-reads : goal.returns-clause-reads
returns-clause-reads c choice =
    let first = c.in_ok-line.ensures.ok in
    let given = Gives-exact _ _ _ (ap (λ (n : ℕ). count_in_line n c.in_ok-line.line.text.now) (sym first.0) ∙ sym c.count_line.ensures) in
    rw c.in_ok-line.ensures.end
    (count_leads choice c.args.lines.now.end c.args.lines.now.rest.now c.in_ok-line.line.text.now c.next_line.new.lines.rest.now c.count_line.result first.1 c.in_ok-line.ensures.within given)

pub returns-in_err-line-clause-reads : goal.returns-in_err-line-clause-reads
returns-in_err-line-clause-reads c choice =
    let p = err_from_is_err_and c.from_residual.result c.from_residual.ensures.1 in
    let missing = c.in_err-line.ensures.err in
    rw (p.1, p.2, missing.0) (inr (ends_uncounted choice c.args.lines.now.end c.args.lines.now.rest.now missing.1))
