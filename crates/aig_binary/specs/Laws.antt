-- What holds of the texts of a circuit.
use Rattle.std.specs.Prelude.{◌≡◌, Some, Ok}
use Rattle.aig_graph.specs.Graph.{IsGraph}
use Rattle.aig_graph.specs.Circuits.{Netlist, IsNetlist}
use Rattle.ascii_file.specs.Laws.{IsWithinLimits}
use Rattle.file_words.specs.declared.spelling.Spelling.{Spelling}
use Rattle.aig_binary.specs.Spellings.{spelling_of, read_any, text_in}
use Rattle.binary_file.specs.Reading.{read_binary}
use Rattle.aig_binary.specs.Text.{text_binary}

-- a circuit's text is of its spelling, and is read as that circuit
pub record SpellingLaw (spelling : Spelling) (c : Netlist) : Type 0 where
  pub spelt : spelling_of (text_in spelling c) ≡ Some spelling
  pub read : IsGraph c.aig → IsNetlist c → IsWithinLimits c → read_any (text_in spelling c) ≡ Ok c

-- the binary text of a circuit is read as that circuit
abbrev pub BinaryRoundTripLaw : Netlist → Type 0
BinaryRoundTripLaw c = IsGraph c.aig → IsNetlist c → IsWithinLimits c → read_binary (text_binary c) ≡ Ok c
