-- A file whose first line is open.
use Rattle.std.specs.Prelude.{ℕ, ◌≡◌, List, ◌++◌, Option, Some, None, Result, Ok, Err, codes}
use Rattle.file_words.specs.declared.fault.ReadError.{ReadError}
use Rattle.file_words.specs.declared.fault.ReadError.TheVariants.{NoMemory}
use Rattle.file_words.specs.Cuts.{HasNoNewline}
use Rattle.file_words.specs.Answering.{Fails}
use Rattle.ascii_file.specs.Pieces.{fed}
use Rattle.ascii_file.specs.declared.parts.header_line.HeaderLine.{HeaderLine}
use Rattle.ascii_file.specs.parts.Header.{header_row, header_with}
use Rattle.aag_text.specs.declared.items.Items.{Items}
use Rattle.aag_text.specs.Standing.{Hold}

-- the bytes are a part of the first line: whatever the rest, it makes of the line what the whole
-- line is
pub record Awaits (line : HeaderLine) (bytes : List ℕ) : Type 0 where
  pub one_line : HasNoNewline bytes
  pub row : (rest : List ℕ) → header_with line rest ≡ header_row (codes "aag ") (bytes ++ rest)

-- after these bytes the first line is open, or items stand, or there was a fault
abbrev pub BeginsItems : HeaderLine → List ℕ → Result (Option Items) ReadError → Type 0
BeginsItems line bytes (Ok None) = Awaits line bytes
BeginsItems line bytes (Ok (Some items)) = Hold items bytes
BeginsItems line bytes (Err error) = Fails NoMemory error (fed bytes)
