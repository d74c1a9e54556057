use Rattle.std.proofs.Common.{List, Ok, sym, ap, ◌∙◌, rules}
use Rattle.certificates.specs.declared.certificate.Certificate.{Certificate}
use Rattle.certificate_files.specs.Files.{ended_parts, file_of}
use Rattle.certificate_files.proofs.StepLaws.{ends_closed, nothing_left}
use Rattle.certificate_files.proofs.blocks.read_blocks.Goals as goal

pub returns-clause-reads : goal.returns-clause-reads
returns-clause-reads c front lists =
    let lines = c.loop-alloc.lines in
    c.loop-alloc.invariant.reads front lists ∙ ends_closed lines.end lines.rest.now front c.loop-alloc.blocks.items (nothing_left lines.rest.now (search rules))
    ∙ ap (λ (bs : List Certificate). Ok (file_of front.choice (ended_parts front bs))) (sym c.from_vec-2.ensures)
