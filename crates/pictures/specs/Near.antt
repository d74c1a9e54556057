-- The neighbourhood of what a name names: the variables that are at most n edges away.
use Rattle.std.specs.Prelude.{ℕ, ◌+◌, ◌==◌, ◌||◌, ◌&&◌, nat_lt, Bool, false, not, suc, zero, List, Some, None, is_some, bytes_eq, if◌then◌else◌}
use Rattle.std.specs.List.{list_any, enumerate_from}
use Rattle.aig_graph.specs.declared.graph.Gate.{Gate}
use Rattle.aig_graph.specs.declared.graph.Latch.{Latch}
use Rattle.aig_graph.specs.declared.properties.Props.{Props}
use Rattle.aig_graph.specs.declared.properties.Symbol.{Symbol}
use Rattle.aig_graph.specs.declared.properties.Symbols.{Symbols}
use Rattle.aig_graph.specs.Graph.{Graph, variable, first_latch, first_gate, variables_end}
use Rattle.aig_graph.specs.Circuits.{Netlist}
use Rattle.aig_graph.specs.Keep.{has_name}
use Rattle.pictures.specs.Places.{is_at, is_justice_read, is_single_read, place_of}

-- whether a property, and whether anything, has the name
unfoldable pub is_property_name : Symbols → List ℕ → Bool
is_property_name s name = has_name s.outputs name || (has_name s.bad name || (has_name s.constraints name || (has_name s.justice name || has_name s.fairness name)))

-- an input, a latch or a property has the name
unfoldable pub is_name_of : Symbols → List ℕ → Bool
is_name_of s name = has_name s.inputs name || (has_name s.latches name || is_property_name s name)

-- whether the circuit has what the name names, or what a picture calls so
abbrev pub has_node : Netlist → List ℕ → Bool
has_node c name = is_name_of c.symbols name || is_some (place_of c name)

-- whether the symbol has the name and is that of the variable; its kind begins at `first`
unfoldable pub names_variable : ℕ → List ℕ → ℕ → Symbol → Bool
names_variable first name v symbol = bytes_eq symbol.name name && (first + symbol.position == v)

-- whether the symbol has the name and is that of a property that reads the variable
unfoldable pub names_single : List ℕ → List ℕ → ℕ → Symbol → Bool
names_single lits name v symbol = bytes_eq symbol.name name && is_single_read lits symbol.position v

unfoldable pub names_justice : List (List ℕ) → List ℕ → ℕ → Symbol → Bool
names_justice justice name v symbol = bytes_eq symbol.name name && is_justice_read justice symbol.position v

-- whether a property with the name reads the variable
unfoldable pub is_property_named : Props → Symbols → List ℕ → ℕ → Bool
is_property_named p s name v =
    (((list_any (names_single p.outputs name v) s.outputs || list_any (names_single p.bad name v) s.bad)
    || list_any (names_single p.constraints name v) s.constraints) || list_any (names_justice p.justice name v) s.justice)
    || list_any (names_single p.fairness name v) s.fairness

-- whether the variable has the name, or a property with the name reads it
unfoldable pub is_named : Netlist → List ℕ → ℕ → Bool
is_named c name v =
    (list_any (names_variable 1 name v) c.symbols.inputs || list_any (names_variable (first_latch c.aig) name v) c.symbols.latches)
    || is_property_named c.props c.symbols name v

-- whether the variable is what the word calls, or the property that the word calls reads it
abbrev pub is_word_of : Netlist → List ℕ → ℕ → Bool
is_word_of c word v = elim (place_of c word) [ None ↦ false | Some node ↦ is_at c.props node v ]

-- whether the variable has the name or, if nothing has, a picture calls it so
unfoldable pub is_centre : Netlist → List ℕ → ℕ → Bool
is_centre c name v = if is_name_of c.symbols name then is_named c name v else is_word_of c name v

-- whether a way goes on from the variable: it is reached, and isn't the constant
unfoldable pub goes_on : (ℕ → Bool) → ℕ → Bool
goes_on near v = not (v == 0) && near v

-- whether the variable is an end of an edge whose other end is reached
unfoldable pub meets : (ℕ → Bool) → ℕ → ℕ → ℕ → Bool
meets near from to v = (near to && (from == v)) || (goes_on near from && (to == v))

unfoldable pub latch_meets : (ℕ → Bool) → ℕ → ℕ × Latch → Bool
latch_meets near v e = meets near (variable e.1.next) e.0 v

unfoldable pub gate_meets : (ℕ → Bool) → ℕ → ℕ × Gate → Bool
gate_meets near v e = meets near (variable e.1.rhs0) e.0 v || meets near (variable e.1.rhs1) e.0 v

-- whether the variable is an edge away from a variable that is reached
unfoldable pub is_next : Graph → (ℕ → Bool) → ℕ → Bool
is_next g near v =
    list_any (latch_meets near v) (enumerate_from (first_latch g) g.latches) || list_any (gate_meets near v) (enumerate_from (first_gate g) g.gates)

-- whether the variable is at most n edges away from what the name names
unfoldable pub is_near : Netlist → List ℕ → ℕ → ℕ → Bool
is_near c name zero v = nat_lt v (variables_end c.aig) && is_centre c name v
is_near c name (suc depth) v = nat_lt v (variables_end c.aig) && (is_near c name depth v || is_next c.aig (is_near c name depth) v)
