-- A circuit as text in DOT, the language of Graphviz.
use Rattle.std.specs.Prelude.{ℕ, ◌+◌, ◌*◌, Bool, false, List, [], ◌∷◌, ◌++◌, decimal, slice_get, Option, Some, None, codes}
use Rattle.std.specs.Str.{byte}
use Rattle.std.specs.List.{flat_map, list_all, range_with_len}
use Rattle.counted_io.specs.Line.{numbered_lines}
use Rattle.aig_graph.specs.declared.graph.Gate.{Gate}
use Rattle.aig_graph.specs.declared.graph.Latch.{Latch}
use Rattle.aig_graph.specs.declared.properties.Props.{Props}
use Rattle.aig_graph.specs.declared.properties.Symbol.{Symbol}
use Rattle.aig_graph.specs.declared.properties.Symbols.{Symbols}
use Rattle.aig_graph.specs.Graph.{Graph, variable, first_latch, first_gate}
use Rattle.aig_graph.specs.Circuits.{Netlist}
use Rattle.pictures.specs.declared.look.Look.{Look}
use Rattle.pictures.specs.declared.node.Node.{Node}
use Rattle.pictures.specs.declared.node.Node.TheVariants.{Variable, Property}
use Rattle.pictures.specs.Labels.{label}
use Rattle.pictures.specs.Looks.{centre_marks, look_of}
use Rattle.pictures.specs.Nodes.{only_if, node_name, edges, input_line, latch_line, gate_line, property_line}

-- what the forms mean, as the caption
unfoldable pub legend : List ℕ
legend =
    codes "labeljust=l;\nfontsize=10;\nlabel=\"dot: negated; dashed arrow: from a literal that isn't drawn\\l"
    ++ (codes "box: latch and its reset; dashed box: without one; double box: held\\l"
    ++ (codes "circle: gate, by its literal; gray: no latch can move over it\\l"
    ++ (codes "blue: latches move over it next; bold: holds a latch afterwards\\l"
    ++ codes "red: what was asked for, or what that reads\\l\";\n")))

-- a name in place of a node's position
unfoldable pub name_line : Node → List ℕ → List ℕ
name_line node name = node_name node ++ (codes " [label=\"" ++ (label name ++ codes "\"];\n"))

-- what is in the middle of a neighbourhood has a red line
unfoldable pub red_line : ℕ → List ℕ
red_line v = decimal (2 * v) ++ codes " [color=red];\n"

unfoldable pub centre_line : ℕ → Bool → List ℕ
centre_line v is_centre = only_if is_centre (red_line v)

-- the lines of all variables, by their marks; a picture of the whole circuit has none
unfoldable pub centre_lines : Option (List Bool) → List ℕ
centre_lines None = []
centre_lines (Some marks) = numbered_lines centre_line 0 marks

-- by how each variable looks, and which are drawn
module _ (look : ℕ → Look) (drawn : ℕ → Bool) where
  -- each node that is drawn, and the edges to it from those that are
  unfoldable pub input_lines : ℕ → List ℕ
  input_lines v = only_if (drawn v) (input_line v)

  unfoldable pub latch_lines : ℕ → ℕ → Latch → List ℕ
  latch_lines first v latch = only_if (drawn v) (latch_line first (look v) v latch ++ edges drawn (Variable v) (latch.next ∷ []))

  unfoldable pub gate_lines : ℕ → Gate → List ℕ
  gate_lines v gate = only_if (drawn v) (gate_line (look v) v ++ edges drawn (Variable v) (gate.rhs0 ∷ gate.rhs1 ∷ []))

  -- for each input, latch and gate that is drawn its node and all edges to it
  unfoldable pub graph_lines : Graph → List ℕ
  graph_lines g =
      flat_map input_lines (range_with_len 1 g.inputs)
      ++ (numbered_lines (latch_lines (first_latch g)) (first_latch g) g.latches ++ numbered_lines gate_lines (first_gate g) g.gates)

  -- a property is drawn if the variables of all its literals are
  abbrev pub are_drawn : List ℕ → Bool
  are_drawn lits = list_all (λ lit. drawn (variable lit)) lits

  unfoldable pub property_lines : ℕ → ℕ → List ℕ → List ℕ
  property_lines letter position lits =
      only_if (are_drawn lits) (property_line (Property letter position) ++ edges drawn (Property letter position) lits)

  -- properties of one literal each
  unfoldable pub single_property : ℕ → ℕ → ℕ → List ℕ
  single_property letter position lit = property_lines letter position (lit ∷ [])

  abbrev pub single_lines : ℕ → List ℕ → List ℕ
  single_lines letter lits = numbered_lines (single_property letter) 0 lits

  -- for each property that is drawn its node and all edges to it
  unfoldable pub all_properties : Props → List ℕ
  all_properties p =
      single_lines (byte "o") p.outputs ++ (single_lines (byte "b") p.bad ++ (single_lines (byte "c") p.constraints
      ++ (numbered_lines (property_lines (byte "j")) 0 p.justice ++ single_lines (byte "f") p.fairness)))

  -- whether the property at a position is there and drawn
  abbrev pub is_drawn_at : List (List ℕ) → ℕ → Bool
  is_drawn_at properties position = elim (slice_get properties position) [ None ↦ false | Some lits ↦ are_drawn lits ]

  abbrev pub is_single_drawn_at : List ℕ → ℕ → Bool
  is_single_drawn_at lits position = elim (slice_get lits position) [ None ↦ false | Some lit ↦ drawn (variable lit) ]

  -- the names of variables, of which the first of their kind is given
  unfoldable pub variable_name : ℕ → Symbol → List ℕ
  variable_name first symbol = only_if (drawn (first + symbol.position)) (name_line (Variable (first + symbol.position)) symbol.name)

  unfoldable pub single_name : ℕ → List ℕ → Symbol → List ℕ
  single_name letter lits symbol = only_if (is_single_drawn_at lits symbol.position) (name_line (Property letter symbol.position) symbol.name)

  unfoldable pub justice_name : List (List ℕ) → Symbol → List ℕ
  justice_name justice symbol = only_if (is_drawn_at justice symbol.position) (name_line (Property (byte "j") symbol.position) symbol.name)

  -- the names of the properties, kind after kind
  unfoldable pub property_names : Props → Symbols → List ℕ
  property_names p s =
      flat_map (single_name (byte "o") p.outputs) s.outputs ++ (flat_map (single_name (byte "b") p.bad) s.bad
      ++ (flat_map (single_name (byte "c") p.constraints) s.constraints ++ (flat_map (justice_name p.justice) s.justice
      ++ flat_map (single_name (byte "f") p.fairness) s.fairness)))

  -- the names of all that is drawn
  unfoldable pub all_names : Netlist → List ℕ
  all_names c =
      flat_map (variable_name 1) c.symbols.inputs ++ (flat_map (variable_name (first_latch c.aig)) c.symbols.latches
      ++ property_names c.props c.symbols)

  -- the picture: its caption, nodes with the edges to them, then what is in the middle, and then
  -- the names
  unfoldable pub dot_text : Option (List Bool) → Netlist → List ℕ
  dot_text centre c =
      codes "digraph circuit {\nrankdir=LR;\nnode [shape=plaintext];\n"
      ++ (legend ++ (graph_lines c.aig ++ (all_properties c.props ++ (centre_lines centre ++ (all_names c ++ codes "}\n")))))

-- the picture of a circuit with held latches, a set or none, the variables shown, and those in the
-- middle
abbrev pub picture : Netlist → List ℕ → Option (List ℕ) → (ℕ → Bool) → Option (ℕ → Bool) → List ℕ
picture c held set shown centre = dot_text (look_of c held set) shown (centre_marks c centre) c
