-- Gates as the bytes of the binary form: two deltas a gate.
use Rattle.std.specs.Prelude.{ℕ, ◌+◌, ◌-◌, ◌*◌, ◌≡◌, nat_lt, List, [], ◌∷◌, length, if◌then◌else◌}
use Rattle.aig_graph.specs.declared.graph.Gate.{Gate}
use Rattle.aig_graph.specs.Graph.{Graph, IsGraph}
use Rattle.counted_io.specs.Line.{numbered_lines}
use Rattle.aig_binary.specs.Text.{gate_deltas}
use Rattle.map_circuits.specs.Growing.{gates_over}

-- the first of the numbers has the seven low bits of this byte below its own
abbrev pub with_low_bits : ℕ → List ℕ → List ℕ
with_low_bits byte [] = []
with_low_bits byte (n ∷ ns) = (byte - 128 + 128 * n) ∷ ns

-- the numbers whose deltas the bytes are, one after the other: a byte below 128 is the last of its
-- delta
abbrev pub numbers_in : List ℕ → List ℕ
numbers_in [] = []
numbers_in (byte ∷ bytes) = if nat_lt byte 128 then byte ∷ numbers_in bytes else with_low_bits byte (numbers_in bytes)

-- the gate of a variable whose first fan-in is this far below its own literal, and whose second
-- this far below the first
abbrev pub gate_apart : ℕ → ℕ → ℕ → Gate
gate_apart v a b = record { rhs0 = 2 * v - a; rhs1 = 2 * v - a - b }

-- those from a variable on, two numbers a gate
abbrev pub gates_apart : ℕ → List ℕ → List Gate
gates_apart v [] = []
gates_apart v (a ∷ []) = []
gates_apart v (a ∷ b ∷ ns) = gate_apart v a b ∷ gates_apart (v + 1) ns

-- the gates whose bytes these are, from a variable on
abbrev pub gates_in : ℕ → List ℕ → List Gate
gates_in first bytes = gates_apart first (numbers_in bytes)

-- those over inputs alone
abbrev pub packed : ℕ → List ℕ → Graph
packed inputs bytes = gates_over inputs (gates_in (1 + inputs) bytes)

-- the bytes are those of `count` gates over inputs alone
pub record ArePacked (inputs count : ℕ) (bytes : List ℕ) : Type 0 where
  pub graph : IsGraph (packed inputs bytes)
  pub spell : bytes ≡ numbered_lines gate_deltas (1 + inputs) (gates_in (1 + inputs) bytes)
  pub many : count ≡ length (gates_in (1 + inputs) bytes)
