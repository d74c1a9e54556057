use Rattle.std.proofs.Common.{inr, ℕ, sym, ap, suc, ◌-◌, ◌∙◌, length}
use Rattle.std.proofs.lemmas.Result.{err_from_is_err_and}
use Rattle.certificate_files.specs.Files.{Blocks, saying_of, settled}
use Rattle.certificate_files.specs.Forms.{gated}
use Rattle.certificate_files.specs.Steps.{block_with_gate}
use Rattle.file_words.proofs.AnsweringLaws.{Gives-exact}
use Rattle.certificate_files.proofs.StepLaws.{line_leads, gate_stood, ends_in_gates}
use Rattle.certificate_files.proofs.blocks.next_gate.Goals as goal

pub returns-clause-reads : goal.returns-clause-reads
returns-clause-reads c front blocks block gates routes =
    let first = c.in_ok-line.ensures.ok in
    let text = c.in_ok-line.line.text.now in
    let lines = c.args.lines.now in
    let at = lines.end - length lines.rest.now in
    let given = Gives-exact _ _ _ (ap (λ (n : ℕ). gated n (saying_of text)) (sym first.0) ∙ sym c.gate_line.ensures) in
    rw c.in_ok-line.ensures.end
    (line_leads (λ v. Blocks front (settled blocks (block_with_gate block v) gates routes)) lines.end lines.rest.now text c.next_line.new.lines.rest.now
    (Blocks front (settled blocks block (suc gates) routes)) c.gate_line.result (gated at (saying_of text)) first.1 c.in_ok-line.ensures.within (gate_stood at front blocks text block gates routes) given)

pub returns-in_err-line-clause-reads : goal.returns-in_err-line-clause-reads
returns-in_err-line-clause-reads c front blocks block gates routes =
    let p = err_from_is_err_and c.from_residual.result c.from_residual.ensures.1 in
    let missing = c.in_err-line.ensures.err in
    rw (p.1, p.2, missing.0) (inr (ends_in_gates c.args.lines.now.end c.args.lines.now.rest.now front blocks block gates routes missing.1))
