-- A circuit with other latches, and the names of a map.
use Rattle.std.specs.Prelude.{◌≡◌, ◌+◌, ◌*◌, List, [], length}
use Rattle.aig_graph.specs.declared.properties.Symbol.{Symbol}
use Rattle.aig_graph.specs.declared.properties.Symbols.{Symbols}
use Rattle.aig_graph.specs.Circuits.{Netlist}
use Rattle.aig_graph.specs.Laws.{all_free}
use Rattle.state_maps.specs.MapCircuits.{FreeStay, IsMapCircuit}
use Rattle.aig_graph.specs.Tables.{table}

-- all names but those of latches are equal
abbrev pub HasOtherLatches : Netlist → Netlist → Type 0
HasOtherLatches c d = d.symbols ≡ record c.symbols { latches = d.symbols.latches }

-- names of a map's inputs and outputs
abbrev pub map_names : List Symbol → List Symbol → Symbols
map_names inputs outputs = record { inputs = inputs; latches = []; outputs = outputs; bad = []; constraints = []; justice = []; fairness = [] }

-- the map of a circuit's states to themselves, in which each latch is its own input
pub record IsWires (c m : Netlist) : Type 0 where
  pub map : IsMapCircuit c c (all_free c.aig) m
  pub free : FreeStay c c m
  pub outputs : m.props.outputs ≡ table 0 (length c.aig.latches) (λ j. 2 * (1 + j))
