use Rattle.std.proofs.Common.{[], ◌∷◌, Result, Ok, sym, ap, ◌∙◌}
use Rattle.file_words.specs.declared.fault.ReadError.{ReadError}
use Rattle.file_words.specs.declared.fault.ReadError.TheVariants.{MaxIndex}
use Rattle.file_words.specs.Answering.{◌>>=◌}
use Rattle.ascii_file.specs.declared.header.Header.{Header}
use Rattle.ascii_file.specs.Reading.{unless}
use Rattle.binary_file.specs.Header.{is_miscounted}
use Rattle.binary_file.proofs.HeaderLaws.{read-header}
use Rattle.binary_file.proofs.header.binary_header.Goals as goal

abbrev total : Result Header ReadError → Result Header ReadError
total r = r >>= λ h. unless ((is_miscounted h, MaxIndex 0) ∷ []) (Ok h)

pub returns-in-Ok-clause-header : goal.returns-in-Ok-clause-header
returns-in-Ok-clause-header c line e = c.with_all_variables.ensures ∙ ap total (sym c.in-Ok.is ∙ c.limited.ensures) ∙ read-header _ line e

pub returns-in-Err-clause-header : goal.returns-in-Err-clause-header
returns-in-Err-clause-header c line e = ap total (sym c.in-Err.is ∙ c.limited.ensures) ∙ read-header _ line e
