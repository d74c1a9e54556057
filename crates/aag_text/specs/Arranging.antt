-- Gates in order, each by its place in the circuit.
use Rattle.std.specs.Prelude.{ℕ, ◌≡◌, ◌+◌, ◌-◌, ◌*◌, ◌^◌, ◌<◌, ◌≤◌, ◌%◌, nat_le, nat_lt, List, length, map, All, get_or, slice_get, slice_index, Option, Some, None, Result, Ok, Err, if◌then◌else◌}
use Rattle.aig_graph.specs.declared.graph.Gate.{Gate}
use Rattle.aig_graph.specs.declared.graph.Latch.{Latch}
use Rattle.aig_graph.specs.Graph.{Graph, variable}
use Rattle.aig_graph.specs.Building.{gate_of}
use Rattle.ascii_file.specs.declared.order.reads.Reads.{Reads}
use Rattle.file_words.specs.declared.fault.ReadError.{ReadError}
use Rattle.file_words.specs.declared.fault.ReadError.TheVariants.{Cycle}

-- the gate that a literal reads, by its place in the file; variables of gates begin with this one
abbrev pub gate_read : ℕ → ℕ → Option ℕ
gate_read first lit = if nat_le first (variable lit) then Some (variable lit - first) else None

-- what a gate reads of the other gates
abbrev pub reads_of_gate : ℕ → Gate → Reads
reads_of_gate first gate = record { first = gate_read first gate.rhs0; second = gate_read first gate.rhs1 }

-- the order, or the fault if there is none
abbrev pub order_or_cycle : Option (List ℕ) → Result (List ℕ) ReadError
order_or_cycle None = Err Cycle
order_or_cycle (Some order) = Ok order

-- each place of the order is the rank of what stands there
pub record AreRanks (order ranks : List ℕ) : Type 0 where
  pub as_many : length ranks ≡ length order
  pub at : (k g : ℕ) → slice_get order k ≡ Some g → slice_index ranks g ≡ k

-- no number stands at two places, and each is below their number
pub record AreDistinct (order : List ℕ) : Type 0 where
  pub below : All (λ g. g < length order) order
  pub alone : (g i j : ℕ) → slice_get order i ≡ Some g → slice_get order j ≡ Some g → i ≡ j

-- variables from this one on, no more than there may be, and all ranks below their number
pub record AreMovable (first : ℕ) (ranks : List ℕ) : Type 0 where
  pub small : first + length ranks ≤ 2 ^ 28
  pub below : All (λ r. r < length ranks) ranks

-- the literal by the rank of its gate, if it is a gate's
abbrev pub moved : ℕ → List ℕ → ℕ → ℕ
moved first ranks lit = if nat_lt (variable lit) first then lit else 2 * (first + slice_index ranks (variable lit - first)) + lit % 2

abbrev pub moved_latch : ℕ → List ℕ → Latch → Latch
moved_latch first ranks latch = record { next = moved first ranks latch.next; reset = latch.reset }

-- the gate with its larger fan-in first
abbrev pub moved_gate : ℕ → List ℕ → Gate → Gate
moved_gate first ranks gate = gate_of (moved first ranks gate.rhs0) (moved first ranks gate.rhs1)

abbrev pub no_gate : Gate
no_gate = record { rhs0 = 0; rhs1 = 0 }

-- the literal's variable is below the end
abbrev pub IsBelow : ℕ → ℕ → Type 0
IsBelow end lit = variable lit < end

abbrev pub HasFanInsBelow : ℕ → Gate → Type 0
HasFanInsBelow end gate = IsBelow end gate.rhs0 × IsBelow end gate.rhs1

-- the gates in this order
abbrev pub gates_in_order : ℕ → List ℕ → List ℕ → List Gate → List Gate
gates_in_order first ranks order gates = map (λ g. moved_gate first ranks (get_or gates g no_gate)) order

-- the graph of inputs, latches and gates in this order
abbrev pub graph_in_order : ℕ → List Latch → List Gate → List ℕ → List ℕ → Graph
graph_in_order inputs latches gates order ranks = record {
  inputs = inputs;
  latches = map (moved_latch (1 + inputs + length latches) ranks) latches;
  gates = gates_in_order (1 + inputs + length latches) ranks order gates;
}
