-- What holds of reading.
use Rattle.std.specs.Prelude.{ℕ, ◌≡◌, ◌≢◌, ◌≤◌, ◌^◌, List, ◌++◌, length, map, All, Ok, Err}
use Rattle.std.specs.List.{sum}
use Rattle.aig_graph.specs.declared.properties.Symbol.{Symbol}
use Rattle.aig_graph.specs.declared.properties.Symbols.{Symbols}
use Rattle.aig_graph.specs.Graph.{IsGraph}
use Rattle.aig_graph.specs.Circuits.{Netlist, IsNetlist}
use Rattle.file_words.specs.declared.fault.ReadError.{ReadError}
use Rattle.file_words.specs.Text.{text}
use Rattle.ascii_file.specs.order.Order.{IsOrder}
use Rattle.ascii_file.specs.declared.header.Header.{Header}
use Rattle.ascii_file.specs.Raw.{Raw}
use Rattle.ascii_file.specs.Files.{IsAsciiFile}
use Rattle.ascii_file.specs.Meaning.{gate_reads, with_gates_at, circuit_of}
use Rattle.ascii_file.specs.Reading.{read_bytes, IsFaultOf}

-- The circuit of a raw circuit. At each place stands the first gate of the file among those that
-- stand at no place below and whose gate fan-ins all do.
pub record IsCircuitOf (h : Header) (raw : Raw) (c : Netlist) : Type 0 where
  pub order : List ℕ
  pub is_order : IsOrder (gate_reads raw) order
  pub circuit : c ≡ circuit_of h (with_gates_at raw order)

-- reading gives a circuit exactly if the bytes are the file of a raw circuit, and then its own;
-- else a fault of the bytes
pub record ReadingLaw (bytes : List ℕ) : Type 0 where
  pub file : (h : Header) (raw : Raw) → IsAsciiFile bytes h raw → (c : Netlist) × IsCircuitOf h raw c × (read_bytes bytes ≡ Ok c)
  pub read : (c : Netlist) → read_bytes bytes ≡ Ok c → (h : Header) × (raw : Raw) × IsAsciiFile bytes h raw × IsCircuitOf h raw c
  pub one : (h h' : Header) (raw raw' : Raw) → IsAsciiFile bytes h raw → IsAsciiFile bytes h' raw' → raw ≡ raw'
  pub fault : (e : ReadError) → read_bytes bytes ≡ Err e → IsFaultOf bytes e

-- all names, kind by kind
abbrev pub all_names : Symbols → List Symbol
all_names s = s.inputs ++ (s.latches ++ (s.outputs ++ (s.bad ++ (s.constraints ++ (s.justice ++ s.fairness)))))

-- no more of each kind of property than a header may state, and no newline in a name
pub record IsWithinLimits (c : Netlist) : Type 0 where
  pub outputs : length c.props.outputs ≤ 2 ^ 24
  pub bad : length c.props.bad ≤ 2 ^ 24
  pub constraints : length c.props.constraints ≤ 2 ^ 24
  pub justice : length c.props.justice ≤ 2 ^ 24
  pub justice_literals : sum (map length c.props.justice) ≤ 2 ^ 24
  pub fairness : length c.props.fairness ≤ 2 ^ 24
  pub names : All (λ symbol. All (λ b. b ≢ 10) symbol.name) (all_names c.symbols)

-- the text of a circuit is read as that circuit
abbrev pub RoundTripLaw : Netlist → Type 0
RoundTripLaw c = IsGraph c.aig → IsNetlist c → IsWithinLimits c → read_bytes (text c) ≡ Ok c
