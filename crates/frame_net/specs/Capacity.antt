-- The flow network of a circuit, by pairs of nodes.
use Rattle.std.specs.Prelude.{◌≡◌, ℕ, ◌+◌, ◌-◌, ◌*◌, ◌<◌, ◌==◌, ◌||◌, ◌↔◌, Bool, true, false, List, length, Option, Some, None, if◌then◌else◌}
use Rattle.aig_graph.specs.Counting.{count_below, places}
use Rattle.aig_graph.specs.declared.graph.Gate.{Gate}
use Rattle.aig_graph.specs.declared.properties.Props.{Props}
use Rattle.aig_graph.specs.Graph.{Graph, first_gate, variables_end, latch_at, gate_at, is_known}
use Rattle.aig_graph.specs.Closed.{is_held}
use Rattle.aig_graph.specs.Border.{is_fan_in, is_read_outside}
use Rattle.frame_net.specs.Passable.{is_passable}
use Rattle.frame_net.specs.Edges.{adjacent}
use Rattle.frame_net.specs.FlowNet.{FlowNet, Node, node_at, node_count, row_len, head, capacity_between}
use Rattle.frame_net.specs.FlowNet.Node.{source, sink, before, after}

-- whether the variable is a known latch or a passable gate
unfoldable pub has_node : Graph → List ℕ → ℕ → Bool
has_node g held v = is_known (latch_at g v) || is_passable g held v

-- the known latches and then the passable gates, in increasing order
abbrev pub node_variables : Graph → List ℕ → List ℕ
node_variables g held = places (has_node g held) (variables_end g)

-- how many known latches there are
abbrev pub latch_count : Graph → List ℕ → ℕ
latch_count g held = count_below (has_node g held) (first_gate g)

-- how many variables before v have nodes
abbrev pub rank : Graph → List ℕ → ℕ → ℕ
rank g held v = count_below (has_node g held) v

-- the nodes after and before a variable
abbrev pub latch_number : Graph → List ℕ → ℕ → ℕ
latch_number g held v = 2 + rank g held v

abbrev pub before_number : Graph → List ℕ → ℕ → ℕ
before_number g held v = 2 + latch_count g held + 2 * (rank g held v - latch_count g held)

abbrev pub after_number : Graph → List ℕ → ℕ → ℕ
after_number g held v = 3 + latch_count g held + 2 * (rank g held v - latch_count g held)

-- how many nodes there are
abbrev pub node_total : Graph → List ℕ → ℕ
node_total g held = 2 + latch_count g held + 2 * (length (node_variables g held) - latch_count g held)

-- the capacity of an arc that no least cut takes
abbrev pub unbounded : Graph → List ℕ → ℕ
unbounded g held = latch_count g held + 1

-- whether the gate at w reads v
abbrev pub gate_reads : ℕ → Option Gate → Bool
gate_reads v None = false
gate_reads v (Some gate) = is_fan_in v gate

-- whether the variable is a held latch, or a gate that isn't passable, a next literal or a property
-- reads it
unfoldable pub is_observed : Graph → Props → List ℕ → ℕ → Bool
is_observed g props held v = is_held g held v || is_read_outside g props (is_passable g held) v

-- the capacity of the arc from one node to another
abbrev pub arc_capacity : Graph → Props → List ℕ → Node → Node → ℕ
arc_capacity g props held source (after v) = if is_known (latch_at g v) then 1 else 0
arc_capacity g props held (before v) (after w) = if v == w then 1 else 0
arc_capacity g props held (after v) (before w) = if gate_reads v (gate_at g w) then unbounded g held else 0
arc_capacity g props held (before w) (before v) = if gate_reads v (gate_at g w) then unbounded g held else 0
arc_capacity g props held (after v) sink = if is_observed g props held v then unbounded g held else 0
arc_capacity g props held v w = 0

-- the capacity of an arc, by the numbers of its nodes
unfoldable pub capacity : Graph → Props → List ℕ → ℕ → ℕ → ℕ
capacity g props held v w =
    arc_capacity g props held (node_at (latch_count g held) (node_variables g held) v) (node_at (latch_count g held) (node_variables g held) w)

-- the network of a circuit; a node's row has just the nodes with an arc from or to it
pub record IsNetOf (g : Graph) (props : Props) (held : List ℕ) (net : FlowNet) : Type 0 where
  pub latches : net.latches ≡ latch_count g held
  pub variables : net.variables ≡ node_variables g held
  pub rows : (v w : ℕ) → v < node_count net → w < node_count net
      → ((k : ℕ) × ((k < row_len net v) × (head net v k ≡ w))) ↔ (adjacent (capacity g props held) v w ≡ true)
  pub capacities : (v w : ℕ) → v < node_count net → w < node_count net → capacity_between net v w ≡ capacity g props held v w
