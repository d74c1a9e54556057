-- How what is reached is marked, variable after variable.
use Rattle.std.specs.Prelude.{ℕ, ◌+◌, ◌-◌, ◌<◌, ◌≤◌, ◌≡◌, ◌⊎◌, ◌||◌, nat_lt, nat_le, Bool, true, false, List, [], ◌∷◌, length, replicate, slice_get, slice_set, Option, Some, None, if◌then◌else◌}
use Rattle.aig_graph.specs.declared.graph.Gate.{Gate}
use Rattle.aig_graph.specs.declared.graph.Latch.{Latch}
use Rattle.aig_graph.specs.declared.properties.Props.{Props}
use Rattle.aig_graph.specs.Graph.{latches_and_gates, Graph, variable, first_latch, first_gate, variables_end, gate_at, latch_at}
use Rattle.aig_graph.specs.Marking.{mark_at}
use Rattle.cleaned_circuits.specs.Reached.{stays, HoldsReads}

-- the marks of the variables from the first latch on, latches before gates, and the marked
-- variables that wait to be read, in this order
pub record Front : Type 0 where
  pub first : ℕ
  pub latches : ℕ
  pub marks : List Bool
  pub waiting : List ℕ

-- one more than the greatest variable that can be marked
abbrev pub front_end : Front → ℕ
front_end r = r.first + length r.marks

-- nothing is reached
abbrev pub no_front : Graph → Front
no_front g = record { first = first_latch g; latches = length g.latches; marks = replicate (latches_and_gates g) false; waiting = [] }

abbrev pub is_marked : Front → ℕ → Bool
is_marked r v = mark_at r.first r.marks v

-- a variable is marked, and doesn't wait
abbrev pub mark : Front → ℕ → Front
mark r v = record { first = r.first; latches = r.latches; marks = slice_set r.marks (v - r.first) true; waiting = r.waiting }

-- a variable waits, and is the next one to be read
abbrev pub with_next : Front → ℕ → Front
with_next r v = record { first = r.first; latches = r.latches; marks = r.marks; waiting = v ∷ r.waiting }

-- a latch or gate that isn't marked is marked, and waits
unfoldable pub reach : Front → ℕ → Front
reach r v = if nat_lt v r.first || is_marked r v then r else with_next (mark r v) v

-- reaching before a sweep has come to the variable: the sweep reads each gate that is marked then,
-- so no gate has to wait
unfoldable pub reach_in_sweep : Front → ℕ → Front
reach_in_sweep r v = if nat_le (r.first + r.latches) v then mark r v else reach r v

-- the variables of literals are reached, one after another, each by such a step
unfoldable pub reach_all : (Front → ℕ → Front) → Front → List ℕ → Front
reach_all step r [] = r
reach_all step r (lit ∷ lits) = reach_all step (step r (variable lit)) lits

abbrev pub reads_by : Option Gate → Option Latch → List ℕ
reads_by (Some gate) latch = gate.rhs0 ∷ gate.rhs1 ∷ []
reads_by None (Some latch) = latch.next ∷ []
reads_by None None = []

-- the literals that the gate or the latch at a variable reads
unfoldable pub reads_of : Graph → ℕ → List ℕ
reads_of g v = reads_by (gate_at g v) (latch_at g v)

-- what the latch or the gate at a variable reads is marked
pub record ReadsMarked (g : Graph) (r : Front) (v : ℕ) : Type 0 where
  pub gate : (x : Gate) → gate_at g v ≡ Some x → (stays g (is_marked r) (variable x.rhs0) ≡ true) × (stays g (is_marked r) (variable x.rhs1) ≡ true)
  pub latch : (x : Latch) → latch_at g v ≡ Some x → stays g (is_marked r) (variable x.next) ≡ true

-- a variable has a place among those that wait
pub record Waits (waiting : List ℕ) (v : ℕ) : Type 0 where
  pub place : ℕ
  pub there : slice_get waiting place ≡ Some v

-- what a sweep reads that has come down to variable n, and hasn't read n
abbrev pub IsGateBelow : Graph → ℕ → ℕ → Type 0
IsGateBelow g n v = (first_gate g ≤ v) × (v < n)

-- marked variables wait, or are read later without waiting, or read marked ones; and each set that
-- holds what it reads has them
pub record Sweeps (g : Graph) (p : Props) (held : List ℕ) (IsReadLater : ℕ → Type 0) (r : Front) : Type 0 where
  pub first : r.first ≡ first_latch g
  pub latches : r.latches ≡ length g.latches
  pub as_long : first_latch g + length r.marks ≡ variables_end g
  pub waiting : (i v : ℕ) → slice_get r.waiting i ≡ Some v → is_marked r v ≡ true
  pub pending : (v : ℕ) → is_marked r v ≡ true → Waits r.waiting v ⊎ (IsReadLater v ⊎ ReadsMarked g r v)
  pub least : (s : ℕ → Bool) → HoldsReads g p held s → (v : ℕ) → is_marked r v ≡ true → s v ≡ true

-- the literal's variable is in each set that holds what it reads, or is no latch and no gate
abbrev pub IsOwed : Graph → Props → List ℕ → ℕ → Type 0
IsOwed g p held lit = (s : ℕ → Bool) → HoldsReads g p held s → stays g s (variable lit) ≡ true
