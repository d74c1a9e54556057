use Rattle.std.proofs.Common.{[], ◌∷◌, Result, Ok, sym, ap, ◌∙◌}
use Rattle.file_words.specs.declared.fault.ReadError.{ReadError}
use Rattle.file_words.specs.declared.fault.ReadError.TheVariants.{MaxIndex}
use Rattle.file_words.specs.Answering.{◌>>=◌}
use Rattle.ascii_file.specs.declared.header.Header.{Header}
use Rattle.std.specs.Option.{option_and_then}
use Rattle.ascii_file.specs.Headers.{header_in}
use Rattle.ascii_file.specs.Reading.{unless}
use Rattle.ascii_file.specs.parts.Header.{header_with}
use Rattle.ascii_file.specs.parts.Limits.{counts_past_greatest}
use Rattle.ascii_file.proofs.HeaderLaws.{read-header}
use Rattle.ascii_file.proofs.WithinLaws.{within}
use Rattle.ascii_file.proofs.parts.header_line.HeaderLine.header.Goals as goal

abbrev total : Result Header ReadError → Result Header ReadError
total r = r >>= λ h. unless ((counts_past_greatest h, MaxIndex 0) ∷ []) (Ok h)

pub returns-in-Ok-clause-value : goal.returns-in-Ok-clause-value
returns-in-Ok-clause-value c line e = c.with_variables.ensures ∙ ap total (sym c.in-Ok.is ∙ c.limited.ensures) ∙ read-header _ line e

pub returns-in-Err-clause-value : goal.returns-in-Err-clause-value
returns-in-Err-clause-value c line e = ap total (sym c.in-Err.is ∙ c.limited.ensures) ∙ read-header _ line e

pub returns-in-Ok-clause-within : goal.returns-in-Ok-clause-within
returns-in-Ok-clause-within c = within (option_and_then header_in (header_with c.args.self.now [])) c.in-Ok.header (sym c.limited.ensures ∙ c.in-Ok.is) c.with_variables.result c.with_variables.ensures
