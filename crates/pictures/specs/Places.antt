-- A picture's own words for a node: the letter of its kind and its position, or the literal of a
-- gate.
use Rattle.std.specs.Prelude.{ℕ, ◌+◌, ◌/◌, ◌%◌, ◌==◌, ◌&&◌, nat_lt, Bool, false, List, length, drop, get_or, slice_get, Option, Some, None, is_some, if◌then◌else◌}
use Rattle.std.specs.List.{list_any}
use Rattle.std.specs.Str.{byte}
use Rattle.file_words.specs.Numbers.{number_of}
use Rattle.aig_graph.specs.declared.properties.Props.{Props}
use Rattle.aig_graph.specs.Graph.{Graph, first_latch, gate_at, variables_end}
use Rattle.aig_graph.specs.Circuits.{Netlist}
use Rattle.aig_graph.specs.Border.{reads}
use Rattle.pictures.specs.declared.node.Node.{Node}
use Rattle.pictures.specs.declared.node.Node.TheVariants.{Variable, Property}

-- the node, if there is one
abbrev pub node_if : Bool → Node → Option Node
node_if there node = if there then Some node else None

-- whether the literal is that of a gate, not negated
abbrev pub is_gate : Graph → ℕ → Bool
is_gate g lit = nat_lt (lit / 2) (variables_end g) && ((lit % 2 == 0) && is_some (gate_at g (lit / 2)))

-- a gate has its literal as its word
abbrev pub gate_place : Graph → ℕ → Option Node
gate_place g lit = node_if (is_gate g lit) (Variable (lit / 2))

-- how many properties there are of the kind with this letter
unfoldable pub property_count : Props → ℕ → ℕ
property_count p letter =
    if letter == byte "o" then length p.outputs
    else (if letter == byte "b" then length p.bad
    else (if letter == byte "c" then length p.constraints
    else (if letter == byte "j" then length p.justice
    else (if letter == byte "f" then length p.fairness else 0))))

abbrev pub input_place : Graph → ℕ → Option Node
input_place g position = node_if (nat_lt position g.inputs) (Variable (1 + position))

abbrev pub latch_place : Graph → ℕ → Option Node
latch_place g position = node_if (nat_lt position (length g.latches)) (Variable (first_latch g + position))

abbrev pub property_place : Props → ℕ → ℕ → Option Node
property_place p letter position = node_if (nat_lt position (property_count p letter)) (Property letter position)

-- an input, a latch or a property has the letter of its kind and its position
unfoldable pub kind_place : Netlist → ℕ → ℕ → Option Node
kind_place c letter position =
    if letter == byte "i" then input_place c.aig position
    else (if letter == byte "l" then latch_place c.aig position else property_place c.props letter position)

-- the node with this word, whatever names the file has
unfoldable pub place_of : Netlist → List ℕ → Option Node
place_of c word = elim (number_of word) [
  | Some lit ↦ gate_place c.aig lit
  | None ↦ elim (number_of (drop 1 word)) [ Some position ↦ kind_place c (get_or word 0 0) position | None ↦ None ]
]

-- whether the property at a position reads the variable
abbrev pub is_single_read : List ℕ → ℕ → ℕ → Bool
is_single_read lits position v = elim (slice_get lits position) [ None ↦ false | Some lit ↦ reads v lit ]

abbrev pub is_justice_read : List (List ℕ) → ℕ → ℕ → Bool
is_justice_read justice position v = elim (slice_get justice position) [ None ↦ false | Some lits ↦ list_any (reads v) lits ]

-- the literals of the properties of a kind that have one each
unfoldable pub literals_of : Props → ℕ → List ℕ
literals_of p letter =
    if letter == byte "o" then p.outputs
    else (if letter == byte "b" then p.bad
    else (if letter == byte "c" then p.constraints
    else p.fairness))

-- whether the property with this letter and position reads the variable
unfoldable pub is_property_read : Props → ℕ → ℕ → ℕ → Bool
is_property_read p letter position v =
    if letter == byte "j" then is_justice_read p.justice position v else is_single_read (literals_of p letter) position v

-- whether the variable is the node, or the property that is the node reads it
unfoldable pub is_at : Props → Node → ℕ → Bool
is_at p (Variable var) v = var == v
is_at p (Property letter position) v = is_property_read p letter position v
