-- A circuit's texts have their letters, and so they are read by their own spelling's reader.
use Rattle.std.proofs.Common.{ℕ, ◌≡◌, List, Option, Some, refl, ap, ◌∙◌}
use Rattle.aig_graph.specs.Circuits.{Netlist}
use Rattle.file_words.specs.Text.{text}
use Rattle.ascii_file.proofs.RoundTripLaws as ascii
use Rattle.aig_binary.specs.Text.{text_binary}
use Rattle.aig_binary.proofs.RoundTripLaws as binary
use Rattle.file_words.specs.declared.spelling.Spelling.{Spelling}
use Rattle.file_words.specs.declared.spelling.Spelling.TheVariants.{Ascii, Binary}
use Rattle.aig_binary.specs.Spellings.{spelling_of, read_in_spelling, read_any}
use Rattle.aig_binary.specs.Laws.{SpellingLaw}

ascii_letters : (c : Netlist) → spelling_of (text c) ≡ Some Ascii
unfolding text
ascii_letters c = refl

binary_letters : (c : Netlist) → spelling_of (text_binary c) ≡ Some Binary
unfolding text_binary
binary_letters c = refl

by_own : (bytes : List ℕ) (spelling : Option Spelling) → spelling_of bytes ≡ spelling → read_any bytes ≡ read_in_spelling spelling bytes
unfolding read_any
by_own bytes spelling is = ap (λ (s : Option Spelling). read_in_spelling s bytes) is

-- the text of a circuit in a spelling names that spelling, and is read as the circuit
pub the_spelling_law : (spelling : Spelling) (c : Netlist) → SpellingLaw spelling c
the_spelling_law Ascii c = record {
  spelt = ascii_letters c;
  read = λ graph netlist within. by_own (text c) (Some Ascii) (ascii_letters c) ∙ ascii.the_round_trip_law c graph netlist within;
}
the_spelling_law Binary c = record {
  spelt = binary_letters c;
  read = λ graph netlist within. by_own (text_binary c) (Some Binary) (binary_letters c) ∙ binary.the_round_trip_law c graph netlist within;
}
