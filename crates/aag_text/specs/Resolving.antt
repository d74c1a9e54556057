-- The circuit of the lists that the sections of a file left.
use Rattle.std.specs.Prelude.{ℕ, ◌≡◌, ◌==◌, ◌+◌, ◌^◌, ◌≤◌, List, length, map, position, All, Some}
use Rattle.std.specs.List.{sum}
use Rattle.aig_graph.specs.declared.properties.Symbols.{Symbols}
use Rattle.aig_graph.specs.Circuits.{Netlist}
use Rattle.ascii_file.specs.declared.order.reads.Reads.{Reads}
use Rattle.ascii_file.specs.order.Order.{IsOrder, ordered}
use Rattle.ascii_file.specs.declared.header.Header.{Header}
use Rattle.ascii_file.specs.Meaning.{props_of}
use Rattle.ascii_file.specs.parts.Names.{AreNamesOf}
use Rattle.ascii_file.specs.parts.Parts.{AreNamesWithin}
use Rattle.aag_text.specs.Numbering.{PlacedLists}
use Rattle.aag_text.specs.Arranging.{IsBelow, HasFanInsBelow, AreRanks, reads_of_gate, moved, graph_in_order}
use Rattle.ascii_file.specs.parts.Places.{place_of}
use Rattle.ascii_file.specs.Raw.{Raw, RawSymbol, defined, safety_count}
use Rattle.ascii_file.specs.Files.{IsCountedBy, DefinesApart, NamesApart}
use Rattle.aag_text.specs.declared.circuit.lists.RawLists.{RawLists}

-- the raw circuit of the lists, with these symbols
abbrev pub raw_of : RawLists → List RawSymbol → Raw
raw_of l symbols = record {
  inputs = l.inputs.items;
  latches = l.latches.items;
  safety = l.properties.safety;
  sizes = l.properties.sizes;
  liveness = l.properties.liveness;
  gates = l.gates.items;
  symbols = symbols;
}

-- what reading has established: items in the header's numbers, each variable defined once, with its
-- place, and names of things of their own
pub record AreListsRead (l : RawLists) (symbols : List RawSymbol) : Type 0 where
  pub counted : IsCountedBy l.header (raw_of l symbols)
  pub apart : DefinesApart (raw_of l symbols)
  pub names_apart : NamesApart l.header (raw_of l symbols)
  pub names : AreNamesOf l.names symbols
  pub places : (v : ℕ) → place_of l.places v ≡ position (λ w. w == v) (defined (raw_of l symbols))

-- as many items as the header says, and names of things that it counts
pub record IsConsistent (l : RawLists) : Type 0 where
  pub inputs : length l.inputs.items ≡ l.header.inputs
  pub latches : length l.latches.items ≡ l.header.latches
  pub safety : length l.properties.safety ≡ safety_count l.header
  pub sizes : length l.properties.sizes ≡ l.header.justice
  pub liveness : length l.properties.liveness ≡ sum l.properties.sizes + l.header.fairness
  pub names : AreNamesWithin l.header l.names

-- the parts fit a circuit of the header's numbers, with one more variable than the end
pub record PlacedListsFit (h : Header) (sizes : List ℕ) (p : PlacedLists) : Type 0 where
  pub small : 1 + h.inputs + h.latches + length p.gates ≤ 2 ^ 28
  pub latches : length p.latches ≡ h.latches
  pub safety : length p.safety ≡ safety_count h
  pub justice : length sizes ≡ h.justice
  pub liveness : length p.liveness ≡ sum sizes + h.fairness
  pub latches_below : All (λ latch. IsBelow (1 + h.inputs + h.latches + length p.gates) latch.next) p.latches
  pub safety_below : All (IsBelow (1 + h.inputs + h.latches + length p.gates)) p.safety
  pub liveness_below : All (IsBelow (1 + h.inputs + h.latches + length p.gates)) p.liveness
  pub gates_below : All (HasFanInsBelow (1 + h.inputs + h.latches + length p.gates)) p.gates

-- what the gates read of each other
abbrev pub placed_reads : Header → PlacedLists → List Reads
placed_reads h p = map (reads_of_gate (1 + h.inputs + h.latches)) p.gates

-- the circuit with the gates in this order and of these ranks
abbrev pub arranged : Header → List ℕ → PlacedLists → Symbols → List ℕ → List ℕ → Netlist
arranged h sizes p names order ranks = record {
  aig = graph_in_order h.inputs p.latches p.gates order ranks;
  props = props_of h (map (moved (1 + h.inputs + h.latches) ranks) p.safety) sizes (map (moved (1 + h.inputs + h.latches) ranks) p.liveness);
  symbols = names;
}

-- the circuit with its gates in order
pub record IsArranged (h : Header) (sizes : List ℕ) (p : PlacedLists) (names : Symbols) (order : List ℕ) (c : Netlist) : Type 0 where
  pub ranks : List ℕ
  pub are_ranks : AreRanks order ranks
  pub circuit : c ≡ arranged h sizes p names order ranks

-- these, in the one order
pub record IsOrdered (h : Header) (sizes : List ℕ) (p : PlacedLists) (names : Symbols) (c : Netlist) : Type 0 where
  pub order : List ℕ
  pub is_order : IsOrder (placed_reads h p) order
  pub computed : ordered (placed_reads h p) ≡ Some order
  pub arranged : IsArranged h sizes p names order c
