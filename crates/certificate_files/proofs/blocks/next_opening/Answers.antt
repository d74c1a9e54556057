use Rattle.std.proofs.Common.{ℕ, refl, sym, ap, ◌∙◌}
use Rattle.certificate_files.specs.Files.{Blocks, stood}
use Rattle.certificate_files.specs.Steps.{ended_blocks, opened}
use Rattle.file_words.proofs.AnsweringLaws.{Gives-exact}
use Rattle.certificate_files.proofs.StepLaws.{line_leads}
use Rattle.certificate_files.proofs.blocks.next_opening.Goals as goal

pub returns-clause-reads : goal.returns-clause-reads
returns-clause-reads c front blocks lists some =
    let first = c.in_ok-line.ensures.ok in
    let text = c.in_ok-line.line.text.now in
    let lines = c.args.lines.now in
    let opening = c.opening_line.result in
    let stands = ap (λ (n : ℕ). stood n (Blocks front (ended_blocks blocks)) text) (sym first.0) ∙ c.opening_line.ensures front blocks lists in
    rw c.in_ok-line.ensures.end
    (line_leads (opened front blocks) lines.end lines.rest.now text c.next_line.new.lines.rest.now (Blocks front (ended_blocks blocks)) opening opening first.1 c.in_ok-line.ensures.within
    stands (Gives-exact _ opening opening refl))
