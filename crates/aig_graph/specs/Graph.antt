-- An and-inverter graph as contracts see it.
use Rattle.std.specs.Prelude.{ℕ, ◌+◌, ◌-◌, ◌/◌, ◌<◌, ◌≤◌, ◌≡◌, Bool, true, false, not, nat_le, List, length, take, count_by, slice_get, Option, Some, None, if◌then◌else◌}
use Rattle.aig_graph.specs.declared.literal.TheConstants.{MAX_VARIABLES}
use Rattle.aig_graph.specs.declared.graph.Latch.{Latch}
use Rattle.aig_graph.specs.declared.graph.Gate.{Gate}
use Rattle.aig_graph.specs.declared.graph.Reset.TheVariants.{Zero, One, Free}

-- a number of inputs, the latches and the gates, which are numbered in this order from variable 1
-- on
pub record Graph : Type 0 where
  pub inputs : ℕ
  pub latches : List Latch
  pub gates : List Gate

-- the variable of a literal
abbrev pub variable : ℕ → ℕ
variable lit = lit / 2

-- the variable of the first latch
abbrev pub first_latch : Graph → ℕ
first_latch g = 1 + g.inputs

-- the variable of the first gate
abbrev pub first_gate : Graph → ℕ
first_gate g = 1 + g.inputs + length g.latches

-- one more than the greatest variable
abbrev pub variables_end : Graph → ℕ
variables_end g = 1 + g.inputs + length g.latches + length g.gates

-- how many latches and gates there are
abbrev pub latches_and_gates : Graph → ℕ
latches_and_gates g = length g.latches + length g.gates

-- the latch at a variable
abbrev pub latch_at : Graph → ℕ → Option Latch
latch_at g v = if nat_le (first_latch g) v then slice_get g.latches (v - first_latch g) else None

-- the gate at a variable
abbrev pub gate_at : Graph → ℕ → Option Gate
gate_at g v = if nat_le (first_gate g) v then slice_get g.gates (v - first_gate g) else None

-- whether a latch is free
abbrev pub is_free : Latch → Bool
is_free latch = elim latch.reset [ Zero ↦ false | One ↦ false | Free ↦ true ]

-- whether there is a latch, and its reset is free
abbrev pub is_free_latch : Option Latch → Bool
is_free_latch None = false
is_free_latch (Some latch) = is_free latch

-- whether there is a latch, and its reset is known
abbrev pub is_known : Option Latch → Bool
is_known None = false
is_known (Some latch) = not (is_free latch)

-- how many of the first n latches are free
abbrev pub free_before : Graph → ℕ → ℕ
free_before g n = count_by is_free (take n g.latches)

-- how many latches are free
abbrev pub free_latches : Graph → ℕ
free_latches g = free_before g (length g.latches)

-- how many latches have a known reset
abbrev pub known_latches : Graph → ℕ
known_latches g = count_by (λ latch. not (is_free latch)) g.latches

-- a literal of the graph
abbrev pub IsLiteralOf : Graph → ℕ → Type 0
IsLiteralOf g lit = variable lit < variables_end g

-- a gate at the variable v: the larger fan-in first, each below v
pub record IsGateAt (v : ℕ) (gate : Gate) : Type 0 where
  pub ordered : gate.rhs1 ≤ gate.rhs0
  pub below : variable gate.rhs0 < v

-- There are at most `MAX_VARIABLES` (2^28) variables with the constant. Each next literal is one of
-- the graph, and each gate is a gate at its variable.
pub record IsGraph (g : Graph) : Type 0 where
  pub small : variables_end g ≤ MAX_VARIABLES
  pub latches : (k : ℕ) (latch : Latch) → slice_get g.latches k ≡ Some latch → IsLiteralOf g latch.next
  pub gates : (k : ℕ) (gate : Gate) → slice_get g.gates k ≡ Some gate → IsGateAt (first_gate g + k) gate
