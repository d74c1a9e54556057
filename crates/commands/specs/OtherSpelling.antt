-- The spelling that a circuit is converted to.
use Rattle.std.specs.Prelude.{Option, unwrap_or}
use Rattle.file_words.specs.declared.spelling.Spelling.{Spelling}
use Rattle.file_words.specs.declared.spelling.Spelling.TheVariants.{Ascii, Binary}

abbrev pub other_spelling : Spelling → Spelling
other_spelling Ascii = Binary
other_spelling Binary = Ascii

-- the chosen spelling, else the one that wasn't read
abbrev pub spelling_for : Spelling → Option Spelling → Spelling
spelling_for read chosen = unwrap_or chosen (other_spelling read)
