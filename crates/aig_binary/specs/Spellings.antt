-- Files of either spelling.
use Rattle.std.specs.Prelude.{ℕ, nat_eq, List, Option, Some, None, Result, Err, if◌then◌else◌, codes}
use Rattle.std.specs.List.{starts_with}
use Rattle.aig_graph.specs.Circuits.{Netlist}
use Rattle.file_words.specs.declared.fault.ReadError.{ReadError}
use Rattle.file_words.specs.declared.fault.ReadError.TheVariants.{BadHeader}
use Rattle.file_words.specs.Text.{text}
use Rattle.ascii_file.specs.Reading.{read_bytes}
use Rattle.binary_file.specs.Reading.{read_binary}
use Rattle.aig_binary.specs.Text.{text_binary}
use Rattle.file_words.specs.declared.spelling.Spelling.{Spelling}
use Rattle.file_words.specs.declared.spelling.Spelling.TheVariants.{Ascii, Binary}

-- the spelling whose letters are the first three bytes
abbrev pub spelling_of : List ℕ → Option Spelling
spelling_of bytes = if starts_with nat_eq bytes (codes "aag") then Some Ascii else (if starts_with nat_eq bytes (codes "aig") then Some Binary else None)

-- what is read of bytes of a spelling, or of neither
abbrev pub read_in_spelling : Option Spelling → List ℕ → Result Netlist ReadError
read_in_spelling None bytes = Err (BadHeader 0)
read_in_spelling (Some Ascii) bytes = read_bytes bytes
read_in_spelling (Some Binary) bytes = read_binary bytes

-- the circuit of the bytes, or their first fault
unfoldable pub read_any : List ℕ → Result Netlist ReadError
read_any bytes = read_in_spelling (spelling_of bytes) bytes

-- the text of a circuit in a spelling
abbrev pub text_in : Spelling → Netlist → List ℕ
text_in Ascii c = text c
text_in Binary c = text_binary c
