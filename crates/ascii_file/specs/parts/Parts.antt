-- The parts that make a circuit.
use Rattle.std.specs.Prelude.{◌≡◌, ◌+◌, ◌<◌, false, List, length, All, AllPairs}
use Rattle.std.specs.List.{sum}
use Rattle.aig_graph.specs.Graph.{Graph}
use Rattle.aig_graph.specs.declared.properties.Symbols.{Symbols}
use Rattle.aig_graph.specs.Circuits.{AreNamesBelow, Netlist, IsNetlist, AreLiteralsOf}
use Rattle.ascii_file.specs.declared.header.Header.{Header}
use Rattle.ascii_file.specs.Raw.{RawSymbol, safety_count, count_of}
use Rattle.ascii_file.specs.Reading.{is_of_same}
use Rattle.ascii_file.specs.Meaning.{props_of, symbols_of}
use Rattle.ascii_file.specs.parts.Lists.{Lists}

-- the numbers of things that the header says, literals of the graph, and symbols that name a thing
-- of their own
pub record PartsFitHeader (h : Header) (g : Graph) (symbols : List RawSymbol) (l : Lists) : Type 0 where
  pub inputs : g.inputs ≡ h.inputs
  pub latches : length g.latches ≡ h.latches
  pub safety : length l.safety ≡ safety_count h
  pub sizes : length l.sizes ≡ h.justice
  pub liveness : length l.liveness ≡ sum l.sizes + h.fairness
  pub safety_literals : AreLiteralsOf g l.safety
  pub liveness_literals : AreLiteralsOf g l.liveness
  pub below : All (λ symbol. symbol.position < count_of h symbol.kind) symbols
  pub apart : AllPairs (λ symbol other. is_of_same other symbol ≡ false) symbols

-- the circuit of a graph, the properties' literals and the symbols
abbrev pub netlist_of_parts : Header → Graph → List RawSymbol → Lists → Netlist
netlist_of_parts h g symbols l = record { aig = g; props = props_of h l.safety l.sizes l.liveness; symbols = symbols_of symbols }

-- these parts make a circuit
abbrev pub NetlistLaw : Header → Graph → List RawSymbol → Lists → Type 0
NetlistLaw h g symbols l = PartsFitHeader h g symbols l → IsNetlist (netlist_of_parts h g symbols l)

-- names by rising position, as many as the header counts at most
pub record AreNamesWithin (h : Header) (names : Symbols) : Type 0 where
  pub inputs : AreNamesBelow h.inputs names.inputs
  pub latches : AreNamesBelow h.latches names.latches
  pub outputs : AreNamesBelow h.outputs names.outputs
  pub bad : AreNamesBelow h.bad names.bad
  pub constraints : AreNamesBelow h.constraints names.constraints
  pub justice : AreNamesBelow h.justice names.justice
  pub fairness : AreNamesBelow h.fairness names.fairness
