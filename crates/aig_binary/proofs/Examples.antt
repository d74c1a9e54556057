-- Beginnings of files, and one circuit in both spellings, computed.
use Rattle.std.proofs.Common.{◌≡◌, [], ◌∷◌, ◌++◌, map, Some, None, Ok, Err, refl}
use Rattle.std.specs.Prelude.{codes}
use Rattle.std.specs.Fmt.{digits}
use Rattle.file_words.specs.declared.fault.ReadError.TheVariants.{BadHeader}
use Rattle.file_words.specs.Lines.{pieces, numbers_of}
use Rattle.file_words.specs.Text.{text, latch_row, gate_row, symbol_line}
use Rattle.file_words.specs.Answering.{◌>>=◌}
use Rattle.counted_io.specs.Line.{line, spaced}
use Rattle.binary_file.specs.Deltas.{delta_value, bytes_within}
use Rattle.ascii_file.specs.Items.{item_of, begins_comment}
use Rattle.ascii_file.specs.Meaning.{props_of, symbols_of}
use Rattle.ascii_file.specs.Reading as ascii
use Rattle.binary_file.specs.Headers.{header_of}
use Rattle.binary_file.specs.Items.{next_section}
use Rattle.binary_file.specs.Reading.{read_binary, read_raw, feed, end_line, end_first, end_second, read_line, read_header, circuit_of}
use Rattle.file_words.specs.declared.spelling.Spelling.TheVariants.{Ascii, Binary}
use Rattle.aig_binary.specs.Spellings.{spelling_of, read_any, text_in}
use Rattle.aig_graph.specs.declared.graph.Reset.TheVariants.{Zero, One, Free}
use Rattle.aig_graph.specs.Circuits.{Netlist, outputs_alone, no_symbols}
use Rattle.aig_binary.specs.Text.{next_row, gate_deltas, text_binary}

beginnings : map spelling_of (codes "aag 0" ∷ codes "aig" ∷ codes "aa" ∷ codes "ai" ∷ [] ∷ codes "abc 0 0 0 0 0\n" ∷ codes " aag" ∷ codes "AAG" ∷ [])
    ≡ Some Ascii ∷ Some Binary ∷ None ∷ None ∷ None ∷ None ∷ None ∷ None ∷ []
beginnings = refl

neither : map read_any ([] ∷ codes "aa" ∷ codes "abc 0 0 0 0 0\n" ∷ []) ≡ Err (BadHeader 0) ∷ Err (BadHeader 0) ∷ Err (BadHeader 0) ∷ []
unfolding read_any
neither = refl

-- a binary file and its circuit's ASCII text
converted : (read_any (codes "aig 5 2 2 1 1\n2\n4\n10\n" ++ 2 ∷ 2 ∷ []) >>= λ c. Ok (text_in Ascii c)) ≡ Ok (codes "aag 5 2 2 1 1\n2\n4\n6 2\n8 4\n10\n10 8 6\n")
unfolding read_any read_binary read_raw feed end_line end_first end_second read_line read_header circuit_of next_section header_of item_of begins_comment pieces numbers_of props_of symbols_of ascii.next_section delta_value text latch_row gate_row symbol_line line spaced digits
converted = refl

-- a latch that reads the gate of two inputs
abbrev one_latch : Netlist
one_latch = record {
  aig = record { inputs = 2; latches = record { next = 8; reset = Zero } ∷ []; gates = record { rhs0 = 4; rhs1 = 2 } ∷ [] };
  props = outputs_alone (6 ∷ []);
  symbols = no_symbols;
}

one_latch_text : text_binary one_latch ≡ codes "aig 4 2 1 1 1\n8\n6\n" ++ 4 ∷ 2 ∷ []
unfolding text_binary next_row gate_deltas line spaced digits bytes_within
one_latch_text = refl

-- all three resets, all properties, deltas of two bytes, and symbols by kind
abbrev all_sections : Netlist
all_sections = record {
  aig = record {
    inputs = 100;
    latches = record { next = 2; reset = One } ∷ record { next = 4; reset = Free } ∷ record { next = 208; reset = Zero } ∷ [];
    gates = record { rhs0 = 202; rhs1 = 3 } ∷ record { rhs0 = 5; rhs1 = 5 } ∷ [];
  };
  props = record { outputs = 208 ∷ []; bad = 1 ∷ []; constraints = 3 ∷ []; justice = (2 ∷ 0 ∷ []) ∷ [] ∷ []; fairness = 211 ∷ [] };
  symbols = record {
    inputs = record { position = 99; name = 120 ∷ [] } ∷ [];
    latches = [];
    outputs = record { position = 0; name = 97 ∷ 32 ∷ 98 ∷ [] } ∷ [];
    bad = [];
    constraints = [];
    justice = record { position = 1; name = [] } ∷ [];
    fairness = [];
  };
}

all_sections_text : text_binary all_sections
    ≡ codes "aig 105 100 3 1 2 1 1 2 1\n2 1\n4 204\n208\n208\n1\n3\n2\n0\n2\n0\n211\n" ++ 6 ∷ 199 ∷ 1 ∷ 205 ∷ 1 ∷ 0 ∷ codes "i99 x\no0 a b\nj1 \n"
unfolding text_binary next_row gate_deltas symbol_line line spaced digits bytes_within
all_sections_text = refl
