-- The circuit of a raw circuit.
use Rattle.std.specs.Prelude.{ℕ, ◌+◌, ◌*◌, ◌%◌, ◌==◌, nat_lt, List, [], ◌∷◌, length, map, take, drop, fold, get_or, position, unwrap_or, Option, if◌then◌else◌}
use Rattle.std.specs.List.{sum}
use Rattle.std.specs.Option.{option_map}
use Rattle.aig_graph.specs.declared.graph.Reset.{Reset}
use Rattle.aig_graph.specs.declared.graph.Reset.TheVariants.{Zero, One, Free}
use Rattle.aig_graph.specs.declared.properties.Props.{Props}
use Rattle.aig_graph.specs.declared.properties.Symbol.{Symbol}
use Rattle.aig_graph.specs.declared.properties.Symbols.{Symbols}
use Rattle.aig_graph.specs.Graph.{variable}
use Rattle.aig_graph.specs.Building.{gate_of}
use Rattle.aig_graph.specs.Circuits.{Netlist}
use Rattle.ascii_file.specs.declared.order.reads.Reads.{Reads}
use Rattle.ascii_file.specs.order.Order.{ordered}
use Rattle.ascii_file.specs.declared.header.Header.{Header}
use Rattle.ascii_file.specs.declared.raw.RawGate.{RawGate}
use Rattle.ascii_file.specs.declared.raw.SymbolKind.{SymbolKind}
use Rattle.ascii_file.specs.declared.raw.SymbolKind.TheVariants.{Input, Latch, Output, Bad, Constraint, Justice, Fairness}
use Rattle.ascii_file.specs.Raw.{Raw, RawSymbol, defined, kind_number}

-- ---- the order of the gates

-- the place in the file of the gate that defines the literal's variable
abbrev pub gate_place : Raw → ℕ → Option ℕ
gate_place raw lit = position (λ gate. variable gate.lhs == variable lit) raw.gates

-- what each gate reads of the others
abbrev pub gate_reads : Raw → List Reads
gate_reads raw = map (λ gate. record { first = gate_place raw gate.rhs0; second = gate_place raw gate.rhs1 }) raw.gates

abbrev pub no_gate : RawGate
no_gate = record { lhs = 0; rhs0 = 0; rhs1 = 0 }

-- the gates at these places of the file, in this order
abbrev pub with_gates_at : Raw → List ℕ → Raw
with_gates_at raw order = record raw { gates = map (λ k. get_or raw.gates k no_gate) order }

-- the raw circuit with each gate after those that it reads, if there is such an order
abbrev pub in_order : Raw → Option Raw
in_order raw = option_map (with_gates_at raw) (ordered (gate_reads raw))

-- ---- its literals

-- the number of a file's variable in the circuit: inputs first, then latches, then gates
abbrev pub renumbered : List ℕ → ℕ → ℕ
renumbered variables v = if v == 0 then 0 else 1 + unwrap_or (position (λ w. w == v) variables) 0

-- the literal with the variable renumbered, its sign kept
abbrev pub literal_in : List ℕ → ℕ → ℕ
literal_in variables lit = 2 * renumbered variables (variable lit) + lit % 2

-- the reset by its number, which is 0, 1, or the latch's own literal
abbrev pub reset_of : ℕ → Reset
reset_of n = if n == 0 then Zero else (if n == 1 then One else Free)

-- ---- its properties

-- lists of these lengths, one after the other
abbrev pub split_by : {X : Type 0} → List ℕ → List X → List (List X)
split_by [] xs = []
split_by (n ∷ sizes) xs = take n xs ∷ split_by sizes (drop n xs)

-- the properties by kind, as header and sizes split the literals of safety and liveness
unfoldable pub props_of : Header → List ℕ → List ℕ → List ℕ → Props
props_of h safety sizes liveness = record {
  outputs = take h.outputs safety;
  bad = take h.bad (drop h.outputs safety);
  constraints = drop (h.outputs + h.bad) safety;
  justice = split_by sizes liveness;
  fairness = drop (sum sizes) liveness;
}

-- ---- its names

-- a name more, by rising position
abbrev pub with_name : List Symbol → Symbol → List Symbol
with_name [] symbol = symbol ∷ []
with_name (first ∷ names) symbol = if nat_lt symbol.position first.position then symbol ∷ first ∷ names else first ∷ with_name names symbol

-- the names of a kind with one more, if that is of the kind
abbrev pub with_symbol : SymbolKind → List Symbol → RawSymbol → List Symbol
with_symbol kind names symbol =
    if kind_number symbol.kind == kind_number kind then with_name names (record { position = symbol.position; name = symbol.name }) else names

-- the names of a kind, by rising position
abbrev pub names_of : SymbolKind → List RawSymbol → List Symbol
names_of kind symbols = fold (with_symbol kind) [] symbols

-- the names of each kind, in the order of the file
unfoldable pub symbols_of : List RawSymbol → Symbols
symbols_of symbols = record {
  inputs = names_of Input symbols;
  latches = names_of Latch symbols;
  outputs = names_of Output symbols;
  bad = names_of Bad symbols;
  constraints = names_of Constraint symbols;
  justice = names_of Justice symbols;
  fairness = names_of Fairness symbols;
}

-- ---- the circuit

-- the circuit of a raw circuit whose gates are in order: inputs, latches and gates in this order,
-- the larger fan-in first
unfoldable pub circuit_of : Header → Raw → Netlist
circuit_of h raw = let variables = defined raw in record {
  aig = record {
    inputs = length raw.inputs;
    latches = map (λ latch. record { next = literal_in variables latch.next; reset = reset_of latch.reset }) raw.latches;
    gates = map (λ gate. gate_of (literal_in variables gate.rhs0) (literal_in variables gate.rhs1)) raw.gates;
  };
  props = props_of h (map (literal_in variables) raw.safety) raw.sizes (map (literal_in variables) raw.liveness);
  symbols = symbols_of raw.symbols;
}
