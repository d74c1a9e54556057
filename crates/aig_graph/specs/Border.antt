-- The border of a set, and least sets.
use Rattle.std.specs.Prelude.{ℕ, ◌≤◌, ◌==◌, ◌||◌, ◌&&◌, Bool, not, List, is_some, Contains}
use Rattle.std.specs.List.{list_any, enumerate_from}
use Rattle.aig_graph.specs.Counting.{count_below}
use Rattle.aig_graph.specs.Marking.{has, mark_at}
use Rattle.aig_graph.specs.declared.graph.Gate.{Gate}
use Rattle.aig_graph.specs.declared.properties.Props.{Props}
use Rattle.aig_graph.specs.Graph.{Graph, variable, first_latch, first_gate, variables_end, latch_at, gate_at, is_known}
use Rattle.aig_graph.specs.Circuits.{Netlist}
use Rattle.aig_graph.specs.Closed.{is_held, IsClosedSet}
use Rattle.aig_graph.specs.Move.{Move, move_of}
use Rattle.aig_graph.specs.Streams.{property_literals}

abbrev pub reads : ℕ → ℕ → Bool
reads v lit = variable lit == v

abbrev pub is_fan_in : ℕ → Gate → Bool
is_fan_in v gate = reads v gate.rhs0 || reads v gate.rhs1

-- whether a gate that isn't inside, a next literal or a property reads the variable
unfoldable pub is_read_outside : Graph → Props → (ℕ → Bool) → ℕ → Bool
is_read_outside g props inside v =
    list_any (λ e. not (inside e.0) && is_fan_in v e.1) (enumerate_from (first_gate g) g.gates)
    || list_any (λ latch. reads v latch.next) g.latches
    || list_any (reads v) (property_literals props)

-- whether a gate outside s, a next literal or a property reads the variable
abbrev pub is_read : Netlist → List ℕ → ℕ → Bool
is_read c s = is_read_outside c.aig c.props (has s)

-- whether the variable is a gate, and in s
abbrev pub is_gate_in : Graph → List ℕ → ℕ → Bool
is_gate_in g s v = is_some (gate_at g v) && has s v

-- whether the variable is a known latch or a gate of the set, and is held or read from outside; any
-- other member adds nothing
unfoldable pub in_border : Move → ℕ → Bool
in_border m v = (is_known (latch_at m.circuit.aig v) || is_gate_in m.circuit.aig m.set v) && (is_held m.circuit.aig m.held v || is_read m.circuit m.set v)

-- Whether the variable is in the border. Marks from the first latch on are of the set, and of what
-- is held or read from outside.
unfoldable pub is_counted : Graph → List Bool → List Bool → ℕ → Bool
is_counted g inside marks v = mark_at (first_latch g) marks v && ((is_some (gate_at g v) && mark_at (first_latch g) inside v) || is_known (latch_at g v))

-- the size of the border
unfoldable pub border_size : Move → ℕ
border_size m = count_below (in_border m) (variables_end m.circuit.aig)

-- no closed set has a smaller border
pub record IsLeast (c : Netlist) (held s : List ℕ) : Type 0 where
  pub closed : IsClosedSet c.aig held s
  pub least : (r : List ℕ) → IsClosedSet c.aig held r → border_size (move_of c held s) ≤ border_size (move_of c held r)

-- the least set in which every least set lies
pub record IsGreatestLeast (c : Netlist) (held s : List ℕ) : Type 0 where
  pub least : IsLeast c held s
  pub holds : (r : List ℕ) → IsLeast c held r → (v : ℕ) → Contains r v → Contains s v

-- the least set that lies in every least set
pub record IsSmallestLeast (c : Netlist) (held s : List ℕ) : Type 0 where
  pub least : IsLeast c held s
  pub within : (r : List ℕ) → IsLeast c held r → (v : ℕ) → Contains s v → Contains r v
