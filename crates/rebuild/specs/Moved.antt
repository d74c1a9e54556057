-- A circuit whose latches have moved forward over a closed set of gates.
use Rattle.std.specs.Prelude.{ℕ, ◌+◌, ◌*◌, ◌++◌, ◌||◌, ◌&&◌, nat_le, not, Bool, List, length, map, filter, Option, Some, None, if◌then◌else◌}
use Rattle.aig_graph.specs.declared.graph.Gate.{Gate}
use Rattle.aig_graph.specs.declared.graph.Latch.{Latch}
use Rattle.aig_graph.specs.declared.properties.Props.{Props}
use Rattle.aig_graph.specs.declared.properties.Symbol.{Symbol}
use Rattle.aig_graph.specs.declared.properties.Symbols.{Symbols}
use Rattle.aig_graph.specs.Graph.{Graph, variable, first_latch, first_gate, variables_end, latch_at, gate_at, is_free_latch, free_latches}
use Rattle.aig_graph.specs.Circuits.{Netlist}
use Rattle.aig_graph.specs.Value.{signed_as, reset_to}
use Rattle.aig_graph.specs.Building.{gate_of}
use Rattle.aig_graph.specs.Move.{Move}
use Rattle.aig_graph.specs.Mapped.{mapped_props}
use Rattle.aig_graph.specs.Border.{in_border, border_size}
use Rattle.aig_graph.specs.Counting.{count_below, places, numbered}
use Rattle.aig_graph.specs.Marking.{has}
use Rattle.rebuild.specs.Starting.{start_value}

-- whether the variable has a latch after the move: it is a free latch, or in the border
unfoldable pub is_latched : Move → ℕ → Bool
is_latched m v = is_free_latch (latch_at m.circuit.aig v) || in_border m v

-- whether the variable is a gate outside the set
unfoldable pub is_outside : Move → ℕ → Bool
is_outside m v = nat_le (first_gate m.circuit.aig) v && not (has m.set v)

-- the first variable after the latches of the moved circuit, and after its gates from outside the
-- set
unfoldable pub gates_start : Move → ℕ
gates_start m = first_latch m.circuit.aig + count_below (is_latched m) (variables_end m.circuit.aig)

unfoldable pub copies_start : Move → ℕ
copies_start m = gates_start m + count_below (is_outside m) (variables_end m.circuit.aig)

-- the variable that gates outside the set, next literals and properties read in the place of v: its
-- latch's, the gate's, or its own
unfoldable pub new_variable : Move → ℕ → ℕ
new_variable m v = numbered (is_latched m) (is_outside m) (first_latch m.circuit.aig) (gates_start m) v

-- the variable of the copy of a gate of the set
unfoldable pub copy_variable : Move → ℕ → ℕ
copy_variable m v = copies_start m + count_below (has m.set) v

-- what gates outside the set, next literals and properties read in the place of a literal
abbrev pub moved_literal : Move → ℕ → ℕ
moved_literal m lit = signed_as lit (2 * new_variable m (variable lit))

abbrev pub next_of : Option Latch → ℕ
next_of None = 0
next_of (Some latch) = latch.next

-- the literal that has now the value that the variable has one step later: of a gate's copy, or
-- what a latch reads next
unfoldable pub advanced : Move → ℕ → ℕ
advanced m v = if has m.set v then 2 * copy_variable m v else moved_literal m (next_of (latch_at m.circuit.aig v))

-- what copies read in the place of a literal
abbrev pub advanced_literal : Move → ℕ → ℕ
advanced_literal m lit = signed_as lit (advanced m (variable lit))

-- a gate with other literals in the place of its own
abbrev pub gate_between : (ℕ → ℕ) → Option Gate → Gate
gate_between stand_in None = gate_of 0 0
gate_between stand_in (Some gate) = gate_of (stand_in gate.rhs0) (stand_in gate.rhs1)

-- the latch of v: the one that stays, else a new one, which reads the gate's copy
abbrev pub latch_from : Move → ℕ → Option Latch → Latch
latch_from m v None = record { next = 2 * copy_variable m v; reset = reset_to (start_value m.circuit.aig v) }
latch_from m v (Some latch) = record { next = moved_literal m latch.next; reset = latch.reset }

-- The latch of a variable: the one that stays, with its reset, or a new one at the copy's output.
-- The new one's reset is the gate's value at step 0.
abbrev pub latch_for : Move → ℕ → Latch
latch_for m v = latch_from m v (latch_at m.circuit.aig v)

abbrev pub gate_for : Move → ℕ → Gate
gate_for m v = gate_between (moved_literal m) (gate_at m.circuit.aig v)

abbrev pub copy_for : Move → ℕ → Gate
copy_for m v = gate_between (advanced_literal m) (gate_at m.circuit.aig v)

-- the latches and the gates of the moved circuit for the variables below n
abbrev pub latches_below : Move → ℕ → List Latch
latches_below m n = map (latch_for m) (places (is_latched m) n)

abbrev pub gates_below : Move → ℕ → List Gate
gates_below m n = map (gate_for m) (places (is_outside m) n)

-- the moved graph: latches that stay, then those of border gates; gates outside the set, then the
-- copies
unfoldable pub moved_graph : Move → Graph
moved_graph m = record {
  inputs = m.circuit.aig.inputs;
  latches = latches_below m (variables_end m.circuit.aig);
  gates = gates_below m (variables_end m.circuit.aig) ++ map (copy_for m) m.set;
}

abbrev pub moved_props : Move → Props
moved_props m = mapped_props (moved_literal m) m.circuit.props

-- whether the latch with this position stays
abbrev pub stays : Move → Symbol → Bool
stays m name = is_latched m (first_latch m.circuit.aig + name.position)

-- the new position of a latch that stays
abbrev pub moved_position : Move → ℕ → ℕ
moved_position m j = count_below (is_latched m) (first_latch m.circuit.aig + j)

-- the positions of the held latches after the move: all of them stay
abbrev pub moved_held : Move → List ℕ
moved_held m = map (moved_position m) m.held

-- the name of a latch that stays, at the latch's new position
abbrev pub moved_name : Move → Symbol → Symbol
moved_name m name = record name { position = moved_position m name.position }

unfoldable pub moved_symbols : Move → Symbols
moved_symbols m = record m.circuit.symbols { latches = map (moved_name m) (filter (stays m) m.circuit.symbols.latches) }

-- the moved circuit: that graph, with properties mapped, and symbols of moved latches dropped
abbrev pub moved_of : Move → Netlist
moved_of m = record { aig = moved_graph m; props = moved_props m; symbols = moved_symbols m }

-- the number of variables of the moved circuit
abbrev pub moved_size : Move → ℕ
moved_size m = first_latch m.circuit.aig + free_latches m.circuit.aig + border_size m + length m.circuit.aig.gates
