-- The text of a circuit.
use Rattle.std.proofs.Common.{◌≡◌, [], ◌∷◌, refl}
use Rattle.std.specs.Prelude.{codes}
use Rattle.std.specs.Fmt.{digits}
use Rattle.counted_io.specs.Line.{line, spaced}
use Rattle.aig_graph.specs.Circuits.{Netlist}
use Rattle.aig_graph.specs.declared.graph.Reset.TheVariants.{Zero}
use Rattle.file_words.specs.Text.{text, latch_row, gate_row, symbol_line}

-- two inputs, a latch after each, and a gate that reads both
abbrev two_latches : Netlist
two_latches = record {
  aig = record {
    inputs = 2;
    latches = record { next = 2; reset = Zero } ∷ record { next = 4; reset = Zero } ∷ [];
    gates = record { rhs0 = 8; rhs1 = 6 } ∷ [];
  };
  props = record { outputs = 10 ∷ []; bad = []; constraints = []; justice = []; fairness = [] };
  symbols = record { inputs = []; latches = []; outputs = []; bad = []; constraints = []; justice = []; fairness = [] };
}

text_example : text two_latches ≡ codes "aag 5 2 2 1 1\n2\n4\n6 2\n8 4\n10\n10 8 6\n"
unfolding text latch_row gate_row symbol_line line spaced digits
text_example = refl
