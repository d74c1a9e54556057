-- A file of either spelling that comes in pieces: whether it has a fault so far.
use Rattle.std.specs.Prelude.{ℕ, nat_lt, List, [], length, Option, Some, None, Result, Ok, Err, if◌then◌else◌}
use Rattle.file_words.specs.declared.fault.ReadError.{ReadError}
use Rattle.file_words.specs.declared.fault.ReadError.TheVariants.{BadHeader}
use Rattle.file_words.specs.Answering.{◌>>=◌}
use Rattle.ascii_file.specs.Pieces.{fed}
use Rattle.binary_file.specs.Reading.{AtHeader, feed}
use Rattle.file_words.specs.declared.spelling.Spelling.{Spelling}
use Rattle.file_words.specs.declared.spelling.Spelling.TheVariants.{Ascii, Binary}
use Rattle.aig_binary.specs.Spellings.{spelling_of}

-- the fault of the bytes of an ASCII file, and of a binary one, whatever follows
abbrev pub ascii_fed : List ℕ → Result (Unit {0}) ReadError
ascii_fed bytes = fed bytes >>= λ state. Ok tt

abbrev pub binary_fed : List ℕ → Result (Unit {0}) ReadError
binary_fed bytes = feed (AtHeader []) bytes >>= λ state. Ok tt

-- the fault of bytes of a spelling; without one there is none before the third byte
abbrev pub fed_in : Option Spelling → List ℕ → Result (Unit {0}) ReadError
fed_in None bytes = if nat_lt (length bytes) 3 then Ok tt else Err (BadHeader 0)
fed_in (Some Ascii) bytes = ascii_fed bytes
fed_in (Some Binary) bytes = binary_fed bytes

-- the fault of these bytes, whatever follows
unfoldable pub fed_any : List ℕ → Result (Unit {0}) ReadError
fed_any bytes = fed_in (spelling_of bytes) bytes
