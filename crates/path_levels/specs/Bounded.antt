-- A circuit of which the gates past a bound aren't passable. Each reads the constant alone, and
-- what it read is read by outputs. So the closed sets of this circuit are those of the circuit
-- whose gates arrive within the bound, with their borders. Nothing else is asked of it, so it has
-- no names, and outputs in the place of all properties.
use Rattle.std.specs.Prelude.{ℕ, ◌++◌, ◌&&◌, ◌↔◌, ◌≡◌, Bool, false, not, nat_lt, List, [], ◌∷◌, map, if◌then◌else◌}
use Rattle.std.specs.List.{enumerate_from, flat_map}
use Rattle.aig_graph.specs.declared.graph.Gate.{Gate}
use Rattle.aig_graph.specs.declared.choice.Choice.{Choice}
use Rattle.aig_graph.specs.Graph.{Graph, IsGraph, first_gate, variables_end, known_latches}
use Rattle.aig_graph.specs.Circuits.{Netlist, IsNetlist, outputs_alone, no_symbols}
use Rattle.aig_graph.specs.Streams.{property_literals}
use Rattle.aig_graph.specs.Building.{gate_of}
use Rattle.aig_graph.specs.Closed.{IsClosedSet}
use Rattle.aig_graph.specs.Move.{move_of}
use Rattle.aig_graph.specs.Border.{border_size}
use Rattle.aig_graph.specs.Chosen.{IsChosen}
use Rattle.frame_net.specs.Passable.{is_passable}
use Rattle.path_levels.specs.Arrivals.{arrival, IsClosedWithin, IsChosenWithin}

-- whether the variable is a passable gate that arrives past the bound
unfoldable pub is_barred : ℕ → Graph → List ℕ → ℕ → Bool
is_barred bound g held v = is_passable g held v && nat_lt bound (arrival g v)

-- a gate, or if it is barred the one that reads the constant alone
abbrev pub gate_left : Bool → Gate → Gate
gate_left barred gate = if barred then gate_of 0 0 else gate

-- what a gate reads if it is barred
abbrev pub reads_barred : Bool → Gate → List ℕ
reads_barred barred gate = if barred then gate.rhs0 ∷ gate.rhs1 ∷ [] else []

-- the gates, with those barred that pass a test
abbrev pub gates_left : (ℕ → Bool) → Graph → List Gate
gates_left test g = map (λ e. gate_left (test e.0) e.1) (enumerate_from (first_gate g) g.gates)

-- what they read, gate by gate
abbrev pub barred_reads : (ℕ → Bool) → Graph → List ℕ
barred_reads test g = flat_map (λ e. reads_barred (test e.0) e.1) (enumerate_from (first_gate g) g.gates)

-- the graph in which they are barred
abbrev pub graph_left : (ℕ → Bool) → Graph → Graph
graph_left test g = record g { gates = gates_left test g }

-- what is read of it: all that properties read, and what barred gates read
abbrev pub outputs_left : (ℕ → Bool) → Netlist → List ℕ
outputs_left test c = property_literals c.props ++ barred_reads test c.aig

abbrev pub with_barred : (ℕ → Bool) → Netlist → Netlist
with_barred test c = record { aig = graph_left test c.aig; props = outputs_alone (outputs_left test c); symbols = no_symbols }

-- the circuit in which the passable gates past a bound are barred
unfoldable pub bounded : ℕ → List ℕ → Netlist → Netlist
bounded bound held c = with_barred (is_barred bound c.aig held) c

-- no gate is barred
abbrev pub NoneBarred : ℕ → Graph → List ℕ → Type 0
NoneBarred bound g held = (v : ℕ) → is_barred bound g held v ≡ false

-- The law of a bounded circuit. It is a circuit over these variables with these latches. Its
-- passable gates are those that aren't barred. Its closed sets are those whose gates arrive within
-- the bound, with their borders. So what is chosen in it is what is chosen among those.
pub record BoundedLaw (bound : ℕ) (held : List ℕ) (c : Netlist) : Type 0 where
  pub graph : IsGraph (bounded bound held c).aig
  pub netlist : IsNetlist (bounded bound held c)
  pub variables : variables_end (bounded bound held c).aig ≡ variables_end c.aig
  pub known : known_latches (bounded bound held c).aig ≡ known_latches c.aig
  pub passable : (v : ℕ) → is_passable (bounded bound held c).aig held v ≡ (is_passable c.aig held v && not (is_barred bound c.aig held v))
  pub closed : (s : List ℕ) → IsClosedSet (bounded bound held c).aig held s ↔ IsClosedWithin bound c.aig held s
  pub border : (s : List ℕ) → IsClosedWithin bound c.aig held s → border_size (move_of (bounded bound held c) held s) ≡ border_size (move_of c held s)
  pub chosen : (choice : Choice) (s : List ℕ) → IsChosen choice (bounded bound held c) held s ↔ IsChosenWithin bound choice c held s
  -- if no gate is barred the circuit serves as it is
  pub unbarred : NoneBarred bound c.aig held → (choice : Choice) (s : List ℕ) → IsChosen choice c held s ↔ IsChosenWithin bound choice c held s

-- the laws of every bounded circuit
abbrev pub BoundedLaws : Type 0
BoundedLaws = (bound : ℕ) (held : List ℕ) (c : Netlist) → IsGraph c.aig → IsNetlist c → BoundedLaw bound held c
