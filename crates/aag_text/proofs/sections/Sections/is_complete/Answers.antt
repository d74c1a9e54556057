use Rattle.std.proofs.Common.{sym, ap, ◌∙◌}
use Rattle.ascii_file.specs.Reading.{is_symbols}
use Rattle.aag_text.specs.Taking.{raw_of}
use Rattle.aag_text.proofs.CountLaws.{counted}
use Rattle.aag_text.proofs.sections.Sections.is_complete.Goals as goal

pub returns-in-Symbols-clause-counted : goal.returns-in-Symbols-clause-counted
returns-in-Symbols-clause-counted c =
    λ symbols stands holds. counted c.args.self.now.header (raw_of c.args.self.now symbols) stands.read.filling (ap is_symbols (sym (c.section.ensures symbols) ∙ c.in-Symbols.is))
