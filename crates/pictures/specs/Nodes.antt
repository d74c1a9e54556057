-- The lines of nodes and edges.
use Rattle.std.specs.Prelude.{ℕ, ◌-◌, ◌*◌, ◌%◌, ◌==◌, Bool, not, List, [], ◌∷◌, ◌++◌, decimal, codes, if◌then◌else◌}
use Rattle.std.specs.List.{flat_map}
use Rattle.aig_graph.specs.Graph.{variable}
use Rattle.aig_graph.specs.declared.graph.Latch.{Latch}
use Rattle.aig_graph.specs.declared.graph.Reset.{Reset}
use Rattle.aig_graph.specs.declared.graph.Reset.TheVariants.{Zero, One, Free}
use Rattle.pictures.specs.declared.look.Look.{Look}
use Rattle.pictures.specs.declared.node.Node.{Node}
use Rattle.pictures.specs.declared.node.Node.TheVariants.{Variable, Property}

-- a text that stands only if something holds
abbrev pub only_if : Bool → List ℕ → List ℕ
only_if holds text = if holds then text else []

-- a variable's node has its literal as its name, a property's the letter of its kind and its
-- position
unfoldable pub node_name : Node → List ℕ
node_name (Variable v) = decimal (2 * v)
node_name (Property letter position) = letter ∷ decimal position

-- The edge from a literal's variable to a node. It has a dot at its end if the literal is a
-- negation. It is dashed if the variable isn't drawn, whose literal then stands there alone.
unfoldable pub edge_line : (ℕ → Bool) → Node → ℕ → List ℕ
edge_line drawn to lit =
    node_name (Variable (variable lit)) ++ (codes " -> " ++ (node_name to ++ (only_if (lit % 2 == 1) (codes " [arrowhead=odot]")
    ++ (only_if (not (drawn (variable lit))) (codes " [style=dashed]") ++ codes ";\n"))))

abbrev pub edges : (ℕ → Bool) → Node → List ℕ → List ℕ
edges drawn to lits = flat_map (edge_line drawn to) lits

-- an input is called by its position
unfoldable pub input_line : ℕ → List ℕ
input_line v = node_name (Variable v) ++ (codes " [shape=cds,label=i" ++ (decimal (v - 1) ++ codes "];\n"))

-- a known reset stands beside the latch; a free latch is dashed
abbrev pub reset_mark : Reset → List ℕ
reset_mark Zero = codes ",xlabel=0"
reset_mark One = codes ",xlabel=1"
reset_mark Free = codes ",style=dashed"

-- a held latch has a double line, one in the border of the set a bold one
unfoldable pub latch_line : ℕ → Look → ℕ → Latch → List ℕ
latch_line first look v latch =
    node_name (Variable v) ++ (codes " [shape=box,label=l" ++ (decimal (v - first) ++ (reset_mark latch.reset
    ++ (only_if look.held (codes ",peripheries=2") ++ (only_if look.border (codes ",penwidth=3") ++ codes "];\n")))))

-- a gate over which no latch may move is gray, one in the set is shaded, one in its border has a
-- bold line
unfoldable pub gate_line : Look → ℕ → List ℕ
gate_line look v =
    node_name (Variable v) ++ (codes " [shape=circle" ++ (only_if look.fixed (codes ",color=gray,fontcolor=gray")
    ++ (only_if look.inside (codes ",style=filled,fillcolor=lightblue") ++ (only_if look.border (codes ",penwidth=3") ++ codes "];\n"))))

-- the node of a property: a note
unfoldable pub property_line : Node → List ℕ
property_line node = node_name node ++ codes " [shape=note];\n"
