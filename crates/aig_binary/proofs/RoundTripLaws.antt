-- The binary text of a circuit is a file of the raw circuit by its own literals, so it is read as
-- that circuit.
use Rattle.std.proofs.Common.{ℕ, ◌+◌, ◌≤◌, ◌≡◌, List, [], ◌∷◌, ◌++◌, map, Some, Ok, true, refl, sym, ap, ap₂, subst, ◌∙◌, append_assoc, arith, codes}
use Rattle.std.specs.List.{flat_map, enumerate_from}
use Rattle.aig_graph.specs.declared.graph.Gate.{Gate}
use Rattle.aig_graph.specs.declared.graph.Latch.{Latch}
use Rattle.aig_graph.specs.Graph.{IsGraph, first_latch, first_gate}
use Rattle.aig_graph.specs.Circuits.{Netlist, IsNetlist}
use Rattle.counted_io.specs.Line.{line, numbered_lines}
use Rattle.file_words.specs.Text.{header_row, numbered_rows, single_rows, property_rows, all_symbols}
use Rattle.file_words.specs.Cuts.{lacks}
use Rattle.file_words.proofs.DecimalLaws.{row_line, row_line-lacks_newline}
use Rattle.ascii_file.specs.declared.raw.RawGate.{RawGate}
use Rattle.ascii_file.specs.Raw.{nothing_yet}
use Rattle.ascii_file.specs.Items.{items_of}
use Rattle.ascii_file.specs.Laws.{IsWithinLimits}
use Rattle.ascii_file.proofs.OrderLaws.{items_grown}
use Rattle.ascii_file.proofs.WrittenCircuitLaws.{written_latch, written_gate, written, written_header}
use Rattle.ascii_file.proofs.NameLaws.{symbols_again}
use Rattle.ascii_file.proofs.TextLineLaws.{reset-row, symbols_text, properties_text}
use Rattle.ascii_file.proofs.OwnLiteralLaws.{latches_again, props_again, graph_is, netlist_is}
use Rattle.ascii_file.proofs.RoundTripLaws.{header_numbers}
use Rattle.binary_file.specs.Headers.{header_of}
use Rattle.binary_file.specs.Items.{first_line, after_line}
use Rattle.binary_file.specs.Reading.{circuit_of}
use Rattle.binary_file.specs.Files.{AreItems, IsBinaryFile}
use Rattle.binary_file.proofs.FileLaws.{the_reading_law}
use Rattle.aig_binary.specs.Text.{next_row, gate_deltas, text_binary}
use Rattle.aig_binary.specs.Laws.{BinaryRoundTripLaw}
use Rattle.aig_binary.proofs.LineLaws.{first_line-is, after_line-is, row_then, latch_bytes, gate_bytes}
use Rattle.aig_binary.proofs.ItemLaws.{same_grown}
use Rattle.aig_binary.proofs.SpeltItemLaws.{listed, listed-counted, item_bytes, listed-spelt}

-- ---- the text

latches_text : (xs : List Latch) (first : ℕ) → 1 ≤ first → flat_map latch_bytes (map written_latch (enumerate_from first xs)) ≡ numbered_rows next_row first xs
unfolding next_row
latches_text [] first low = refl
latches_text (x ∷ xs) first low =
    ap₂ (λ (ns more : List ℕ). line (x.next ∷ ns) ++ more) (reset-row first x.reset low) (latches_text xs (first + 1) (omega (arith, low)))

gates_text : (xs : List Gate) (first : ℕ) → flat_map gate_bytes (map written_gate (enumerate_from first xs)) ≡ numbered_lines gate_deltas first xs
unfolding gate_deltas
gates_text [] first = refl
gates_text (x ∷ xs) first = ap (λ (more : List ℕ). gate_bytes (written_gate (first, x)) ++ more) (gates_text xs (first + 1))

abbrev letters_and_numbers : Netlist → List ℕ
letters_and_numbers c = codes "aig " ++ row_line (header_row c)

module _ (c : Netlist) (graph : IsGraph c.aig) (netlist : IsNetlist c) (within : IsWithinLimits c) where
  abbrev bytes_after : List ℕ
  bytes_after = item_bytes c graph netlist within

  items_text : bytes_after ≡ numbered_rows next_row (first_latch c.aig) c.aig.latches ++ (property_rows c.props ++ (numbered_lines gate_deltas (first_gate c.aig) c.aig.gates ++ all_symbols c.symbols))
  items_text =
      ap₂ (λ (latches more : List ℕ). latches ++ more) (latches_text c.aig.latches (first_latch c.aig) (omega arith))
      (ap₂ (λ (gates names : List ℕ). single_rows (written c).safety ++ (single_rows (written c).sizes ++ (single_rows (written c).liveness ++ (gates ++ names)))) (gates_text c.aig.gates (first_gate c.aig)) (symbols_text c.symbols)
      ∙ properties_text c (all_symbols c.symbols) (numbered_lines gate_deltas (first_gate c.aig) c.aig.gates))

  text_is : text_binary c ≡ letters_and_numbers c ++ 10 ∷ bytes_after
  unfolding text_binary
  text_is =
      grouped (codes "aig ") (line (header_row c)) (numbered_rows next_row (first_latch c.aig) c.aig.latches) (property_rows c.props) (numbered_lines gate_deltas (first_gate c.aig) c.aig.gates) (all_symbols c.symbols)
      ∙ ap (λ (more : List ℕ). codes "aig " ++ (line (header_row c) ++ more)) (sym items_text) ∙ ap (λ (more : List ℕ). codes "aig " ++ more) (row_then (header_row c) bytes_after)
    where
      grouped : (a b d e f g : List ℕ) → a ++ b ++ d ++ e ++ f ++ g ≡ a ++ (b ++ (d ++ (e ++ (f ++ g))))
      grouped a b d e f g = simp append_assoc

  first_lacks : lacks 10 (letters_and_numbers c) ≡ true
  first_lacks = row_line-lacks_newline (header_row c)

  header_spelt : header_of (letters_and_numbers c) ≡ Some (written_header c)
  unfolding header_of
  header_spelt = header_numbers c graph within

  text-file : IsBinaryFile (text_binary c) (written_header c) (listed c)
  text-file = record {
    header = ap (λ (bytes : List ℕ). header_of (first_line bytes)) text_is ∙ ap header_of (first_line-is (letters_and_numbers c) bytes_after first_lacks) ∙ header_spelt;
    within = record {
      greatest = omega (arith, graph.small);
      outputs = within.outputs;
      bad = within.bad;
      constraints = within.constraints;
      justice = within.justice;
      fairness = within.fairness;
      total = omega arith;
    };
    items = items_of (listed c);
    spelt = subst (AreItems (written_header c) nothing_yet (items_of (listed c))) (sym (ap after_line text_is ∙ after_line-is (letters_and_numbers c) bytes_after first_lacks)) (listed-spelt c graph netlist within);
    all = same_grown (items_of (listed c)) nothing_yet ∙ items_grown (record (written_header c) { inputs = 0 }) (listed c) (listed-counted c);
  }

-- ---- the circuit

gates_again : (xs : List Gate) (first : ℕ) → map (λ (gate : RawGate). record { rhs0 = gate.rhs0; rhs1 = gate.rhs1 }) (map written_gate (enumerate_from first xs)) ≡ xs
gates_again [] first = refl
gates_again (x ∷ xs) first = ap (λ (ys : List Gate). x ∷ ys) (gates_again xs (first + 1))

circuit_again : (c : Netlist) → IsNetlist c → circuit_of (written_header c) (listed c) ≡ c
unfolding circuit_of
circuit_again c netlist =
    netlist_is c _ _ _
    (graph_is c.aig _ _ _ refl (latches_again (λ lit. lit) c.aig.latches (first_latch c.aig) (omega arith) (λ k latch there. refl)) (gates_again c.aig.gates (first_gate c.aig)))
    (props_again c) (symbols_again c netlist)

-- the binary text of a circuit within the limits is read as that circuit
pub the_round_trip_law : (c : Netlist) → BinaryRoundTripLaw c
the_round_trip_law c graph netlist within =
    (the_reading_law (text_binary c)).file (written_header c) (listed c) (text-file c graph netlist within) ∙ ap Ok (circuit_again c netlist)
