-- What is shown of a circuit: its inputs, its latches, and the literals of its properties.
use Rattle.std.specs.Prelude.{ℕ, ◌+◌, ◌*◌, ◌++◌, List, length}
use Rattle.aig_graph.specs.Tables.{table}
use Rattle.aig_graph.specs.Graph.{Graph}
use Rattle.aig_graph.specs.Circuits.{Netlist, no_symbols, outputs_alone}
use Rattle.aig_graph.specs.Streams.{property_literals}

-- the literal of a variable
abbrev pub literal : ℕ → ℕ
literal v = 2 * v

-- those of the inputs and the latches, whose variables begin at 1
abbrev pub leaf_literals : Graph → List ℕ
leaf_literals g = table 1 (g.inputs + length g.latches) literal

-- the literals that a dump shows of a circuit: of inputs, of latches, and of properties, kind after
-- kind
unfoldable pub shown_literals : Netlist → List ℕ
shown_literals c = leaf_literals c.aig ++ property_literals c.props

-- the circuit that has those as its outputs, and no other property
abbrev pub probed : Netlist → Netlist
probed c = record { aig = c.aig; props = outputs_alone (shown_literals c); symbols = no_symbols }
