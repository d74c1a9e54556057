-- How deep a circuit is: how many gates stand one above the other.
use Rattle.std.specs.Prelude.{ℕ, suc, max, nat_le, ◌-◌, ◌++◌, List, map, slice_index_or, if◌then◌else◌}
use Rattle.std.specs.List.{fold}
use Rattle.aig_graph.specs.declared.graph.Gate.{Gate}
use Rattle.aig_graph.specs.Graph.{Graph, variable}
use Rattle.aig_graph.specs.Circuits.{Netlist}
use Rattle.aig_graph.specs.Folding.{fold_gates}
use Rattle.aig_graph.specs.Streams.{property_literals}

-- an input, a latch and the constant are on the ground
abbrev pub ground_level : ℕ → ℕ
ground_level v = 0

-- a gate is one above the higher of its fan-ins
abbrev pub one_above : Gate → ℕ → ℕ → ℕ
one_above gate a b = suc (max a b)

-- the level of a variable: the number of gates on the longest path up to it from inputs and
-- latches, itself among them
unfoldable pub level : Graph → ℕ → ℕ
level g v = fold_gates g ground_level one_above v

-- the greatest of a level and those that literals have
abbrev pub highest : (ℕ → ℕ) → ℕ → List ℕ → ℕ
highest levels level lits = fold (λ high lit. max high (levels (variable lit))) level lits

-- what latches and properties read: next literals, then the literals of properties
abbrev pub read_literals : Netlist → List ℕ
read_literals c = map (λ latch. latch.next) c.aig.latches ++ property_literals c.props

-- the greatest level of what latches and properties read
unfoldable pub levels : Netlist → ℕ
levels c = highest (level c.aig) 0 (read_literals c)

-- a variable's entry in a table from a first variable on; 0 if there is none
unfoldable pub entry_at : ℕ → List ℕ → ℕ → ℕ
entry_at first entries v = if nat_le first v then slice_index_or entries (v - first) 0 else 0
