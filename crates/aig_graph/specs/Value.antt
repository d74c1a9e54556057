-- The value of a literal at a step.
use Rattle.std.specs.Prelude.{ℕ, ◌+◌, ◌-◌, ◌*◌, ◌%◌, suc, zero, Bool, true, false, not, ◌&&◌, ◌==◌, nat_lt, slice_get, Option, Some, None, if◌then◌else◌}
use Rattle.aig_graph.specs.declared.graph.Gate.{Gate}
use Rattle.aig_graph.specs.declared.graph.Latch.{Latch}
use Rattle.aig_graph.specs.declared.graph.Reset.{Reset}
use Rattle.aig_graph.specs.declared.graph.Reset.TheVariants.{Zero, One, Free}
use Rattle.aig_graph.specs.Graph.{Graph, variable, first_latch, free_before}
use Rattle.aig_graph.specs.Folding.{fold_gates}

-- the digit of an input at a step
abbrev pub Inputs : Type 0
Inputs = ℕ → ℕ → Bool

-- the value at step 0 of each free latch, by its place among the free latches
abbrev pub Choice : Type 0
Choice = ℕ → Bool

-- a value, negated if the literal is
abbrev pub signed : ℕ → Bool → Bool
signed lit b = if lit % 2 == 1 then not b else b

-- the literal base, negated if lit is
abbrev pub signed_as : ℕ → ℕ → ℕ
signed_as lit base = 2 * variable base + (base + lit) % 2

-- the AND of a gate's literals, by the values of their variables
abbrev pub conjunction : Gate → Bool → Bool → Bool
conjunction gate a b = signed gate.rhs0 a && signed gate.rhs1 b

-- the reset with this value
abbrev pub reset_to : Bool → Reset
reset_to true = One
reset_to false = Zero

-- the value of a latch at step 0, if b was chosen for it
abbrev pub opening : Reset → Bool → Bool
opening Zero b = false
opening One b = true
opening Free b = b

-- the literal of a latch's value at step 0, by its reset; own is its own literal
abbrev pub opening_literal : Reset → ℕ → ℕ
opening_literal Zero own = 0
opening_literal One own = 1
opening_literal Free own = own

-- what the latch with this number holds at step 0
abbrev pub opening_at : Graph → Choice → ℕ → Option Latch → Bool
opening_at g f j None = false
opening_at g f j (Some latch) = opening latch.reset (f (free_before g j))

-- what a latch holds after a step, from the values of literals in it
abbrev pub next_value : (ℕ → Bool) → Option Latch → Bool
next_value values None = false
next_value values (Some latch) = values latch.next

-- the value of the constant, an input or a latch
abbrev pub leaf_value : Graph → (ℕ → Bool) → (ℕ → Bool) → ℕ → Bool
leaf_value g inputs latches v = if v == 0 then false else (if nat_lt v (first_latch g) then inputs (v - 1) else latches (v - first_latch g))

-- a literal's value within a step, by those of the inputs and latches
abbrev pub value_within : Graph → (ℕ → Bool) → (ℕ → Bool) → ℕ → Bool
value_within g inputs latches lit = signed lit (fold_gates g (leaf_value g inputs latches) conjunction (variable lit))

-- what a latch holds at step t
unfoldable pub latch_value : Graph → Inputs → Choice → ℕ → ℕ → Bool
latch_value g x f zero j = opening_at g f j (slice_get g.latches j)
latch_value g x f (suc t) j = next_value (value_within g (x t) (latch_value g x f t)) (slice_get g.latches j)

-- the value of a literal at step t
unfoldable pub value : Graph → Inputs → Choice → ℕ → ℕ → Bool
value g x f t lit = value_within g (x t) (latch_value g x f t) lit
