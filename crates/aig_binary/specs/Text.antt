-- The binary text of a circuit. What it has in common with the ASCII text is that of `counted_io`.
use Rattle.std.specs.Prelude.{ℕ, ◌-◌, ◌*◌, List, ◌∷◌, ◌++◌, codes}
use Rattle.aig_graph.specs.declared.graph.Gate.{Gate}
use Rattle.aig_graph.specs.declared.graph.Latch.{Latch}
use Rattle.aig_graph.specs.Graph.{first_latch, first_gate}
use Rattle.aig_graph.specs.Circuits.{Netlist}
use Rattle.counted_io.specs.Buffered.{Puts}
use Rattle.counted_io.specs.Line.{line, numbered_lines}
use Rattle.counted_io.specs.Output.{Output}
use Rattle.counted_io.specs.declared.buffered.Buffered.{Buffered}
use Rattle.file_words.specs.Text.{header_row, reset_row, numbered_rows, property_rows, all_symbols}
use Rattle.binary_file.specs.Deltas.{delta_of}

-- the numbers of a latch's line: its next literal, and its reset unless that is 0
unfoldable pub next_row : ℕ → Latch → List ℕ
next_row var latch = latch.next ∷ reset_row var latch.reset

-- a gate's deltas: from its own literal down to the first fan-in, and from there to the second
unfoldable pub gate_deltas : ℕ → Gate → List ℕ
gate_deltas var gate = delta_of (2 * var - gate.rhs0) ++ delta_of (gate.rhs0 - gate.rhs1)

-- the binary text of a circuit; inputs aren't listed
unfoldable pub text_binary : Netlist → List ℕ
text_binary c =
    codes "aig " ++ line (header_row c) ++ numbered_rows next_row (first_latch c.aig) c.aig.latches ++ property_rows c.props
    ++ numbered_lines gate_deltas (first_gate c.aig) c.aig.gates ++ all_symbols c.symbols

-- What is put after the bytes that wait now ends in what would have been put after those that
-- waited.
abbrev pub KeepsText : {W : Type 0} → (W → Output) → Buffered W → List ℕ → Buffered W → List ℕ → Type 0
KeepsText {W} output old before new after = (end : Buffered W) (more : List ℕ) → Puts output new end (after ++ more) → Puts output old end (before ++ more)
