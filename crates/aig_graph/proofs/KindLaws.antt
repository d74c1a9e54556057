-- What stands at a variable of a graph.
use Rattle.std.proofs.Common.{ℕ, ◌+◌, ◌-◌, ◌<◌, ◌≤◌, ◌≡◌, inl, inr, zero, suc, true, nat_le, List, [], ◌∷◌, length, slice_get, Some, None, refl, arith}
use Rattle.std.proofs.lemmas.Bool.{cases_lt, cases_eq, leb-true, le-leb, lt-leb, cond-false}
use Rattle.std.proofs.lemmas.Option.{slice_get_within, slice_get_past}
use Rattle.aig_graph.specs.declared.graph.Gate.{Gate}
use Rattle.aig_graph.specs.declared.graph.Latch.{Latch}
use Rattle.aig_graph.specs.Graph.{Graph, variables_end, first_latch, first_gate, latch_at, gate_at}
use Rattle.aig_graph.proofs.FoldingLaws.{if_some}

-- the element at a place within a list
pub element : {A : Type 0} (xs : List A) (k : ℕ) → k < length xs → (x : A) × (slice_get xs k ≡ Some x)
element [] k h = absurd (omega arith)
element (x ∷ xs) zero h = (x, refl)
element (x ∷ xs) (suc k) h = element xs k (omega arith)

pub data KindOf (g : Graph) (v : ℕ) : Type 0 where
  is_constant : v ≡ 0 → KindOf g v
  is_input : (i : ℕ) → i < g.inputs → v ≡ 1 + i → KindOf g v
  is_latch : (j : ℕ) (latch : Latch) → slice_get g.latches j ≡ Some latch → v ≡ first_latch g + j → KindOf g v
  is_gate : (k : ℕ) (gate : Gate) → slice_get g.gates k ≡ Some gate → v ≡ first_gate g + k → KindOf g v

-- each variable of a graph is the constant, an input, a latch or a gate
pub kind_of : (g : Graph) (v : ℕ) → v < variables_end g → KindOf g v
kind_of g v h = elim (cases_eq v 0) [
  | inl same ↦ is_constant same
  | inr other ↦ elim (cases_lt v (first_latch g)) [
    | inl low ↦ is_input (v - 1) (omega arith) (omega arith)
    | inr past ↦ elim (cases_lt v (first_gate g)) [
      | inl before ↦ (
          let there = element g.latches (v - first_latch g) (omega arith) in
          is_latch (v - first_latch g) there.0 there.1 (omega arith))
      | inr after ↦ (
          let there = element g.gates (v - first_gate g) (omega arith) in
          is_gate (v - first_gate g) there.0 there.1 (omega arith))
    ]
  ]
]

-- before the first latch stands no latch
pub latch_at-before : (g : Graph) (v : ℕ) → v < first_latch g → latch_at g v ≡ None
latch_at-before g v h = cond-false _ _ _ (lt-leb _ _ h)

-- each latch stands at its place from the first latch's variable on
pub latch_at-first_latch : (g : Graph) (j : ℕ) → latch_at g (first_latch g + j) ≡ slice_get g.latches j
latch_at-first_latch g j =
    let at_or_after : nat_le (first_latch g) (first_latch g + j) ≡ true = le-leb _ _ (omega arith) in
    let place : first_latch g + j - first_latch g ≡ j = omega arith in
    rw (at_or_after, place)

-- from the first gate on stands no latch
pub latch_at-gates : (g : Graph) (v : ℕ) → first_gate g ≤ v → latch_at g v ≡ None
latch_at-gates g v h =
    let at_or_after : nat_le (first_latch g) v ≡ true = le-leb _ _ (omega arith) in
    let past : slice_get g.latches (v - first_latch g) ≡ None = slice_get_past g.latches (v - first_latch g) (omega arith) in
    rw (at_or_after, past)

-- a latch stands at its variable
pub record LatchPlace (g : Graph) (v : ℕ) (latch : Latch) : Type 0 where
  -- the variable is from the first latch on
  pub from : first_latch g ≤ v
  -- the variable is below the first gate
  pub below : v < first_gate g
  -- it is the latch at this place among the latches
  pub there : slice_get g.latches (v - first_latch g) ≡ Some latch

-- a variable at which a latch stands lies among the latches
pub latch_place : (g : Graph) (v : ℕ) (latch : Latch) → latch_at g v ≡ Some latch → LatchPlace g v latch
latch_place g v latch e =
    let parts : (nat_le (first_latch g) v ≡ true) × (slice_get g.latches (v - first_latch g) ≡ Some latch) = if_some (nat_le (first_latch g) v) (slice_get g.latches (v - first_latch g)) latch e in
    let after : first_latch g ≤ v = leb-true (first_latch g) v parts.0 in
    record { from = after; below = omega (arith, slice_get_within g.latches (v - first_latch g) latch parts.1); there = parts.1 }

pub record GatePlace (g : Graph) (v : ℕ) (gate : Gate) : Type 0 where
  -- the variable is from the first gate on
  pub from : first_gate g ≤ v
  -- the variable is below the variables' end
  pub below : v < variables_end g
  -- it is the gate at this place among the gates
  pub there : slice_get g.gates (v - first_gate g) ≡ Some gate

-- a variable at which a gate stands lies among the gates
pub gate_place : (g : Graph) (v : ℕ) (gate : Gate) → gate_at g v ≡ Some gate → GatePlace g v gate
gate_place g v gate e =
    let parts : (nat_le (first_gate g) v ≡ true) × (slice_get g.gates (v - first_gate g) ≡ Some gate) = if_some (nat_le (first_gate g) v) (slice_get g.gates (v - first_gate g)) gate e in
    let after : first_gate g ≤ v = leb-true (first_gate g) v parts.0 in
    record { from = after; below = omega (arith, slice_get_within g.gates (v - first_gate g) gate parts.1); there = parts.1 }
