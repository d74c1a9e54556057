-- What the value of a literal within a step is, by what it is of: in any state, reachable or not.
use Rattle.std.proofs.Common.{ℕ, ◌+◌, ◌-◌, ◌*◌, ◌<◌, ◌≡◌, Some, arith, Bool, false, not, ◌&&◌, slice_get, ap, ◌∙◌}
use Rattle.std.proofs.lemmas.Option.{slice_get_within}
use Rattle.aig_graph.specs.declared.graph.Gate.{Gate}
use Rattle.aig_graph.specs.declared.graph.Latch.{Latch}
use Rattle.aig_graph.specs.Graph.{Graph, IsGraph, first_latch, first_gate, latch_at, gate_at}
use Rattle.aig_graph.specs.Value.{value_within, next_value}
use Rattle.aig_graph.proofs.KindLaws.{GatePlace, LatchPlace, gate_place, latch_place}
use Rattle.aig_graph.proofs.ValueLaws.{within-constant, within-input, within-latch, within-gate, within-odd}
use Rattle.state_maps.specs.States.{State, Digits, after_step}

-- values of literals within a step
pub record WithinLaws (g : Graph) (x : Digits) (s : State) (values : ℕ → Bool) : Type 0 where
  -- the constant is 0
  pub constant : values 0 ≡ false
  -- an input's literal has the input's digit
  pub input : (i : ℕ) → i < g.inputs → values (2 * (1 + i)) ≡ x i
  -- a latch's literal has what the latch holds in the state
  pub latch : (j : ℕ) (latch : Latch) → slice_get g.latches j ≡ Some latch → values (2 * (first_latch g + j)) ≡ s j
  -- a gate's literal is 1 if both fan-ins are
  pub gate : (k : ℕ) (gate : Gate) → slice_get g.gates k ≡ Some gate → values (2 * (first_gate g + k)) ≡ (values gate.rhs0 && values gate.rhs1)
  -- a negated literal has the other value
  pub negation : (v : ℕ) → values (2 * v + 1) ≡ not (values (2 * v))

-- the laws of the values in any state
pub within_laws : (g : Graph) → IsGraph g → (x : Digits) (s : State) → WithinLaws g x s (value_within g x s)
within_laws g valid x s = record {
  constant = within-constant g x s;
  input = λ i h. within-input g x s i h;
  latch = λ j latch e. within-latch g x s j (slice_get_within g.latches j latch e);
  gate = λ k gate e. within-gate g x s valid k gate e;
  negation = λ v. within-odd g x s v;
}

-- the value of a latch, a step later, and of a gate, by its variable
pub within-latch_at : (g : Graph) → IsGraph g → (x : Digits) (s : State) (v : ℕ) (latch : Latch) → latch_at g v ≡ Some latch → value_within g x s (2 * v) ≡ s (v - first_latch g)
within-latch_at g valid x s v latch e =
    let place : LatchPlace g v latch = latch_place g v latch e in
    let here : 2 * v ≡ 2 * (first_latch g + (v - first_latch g)) = omega arith in
    ap (value_within g x s) here ∙ (within_laws g valid x s).latch (v - first_latch g) latch place.there

-- what a latch holds a step later is its next literal's value
pub later-latch_at : (g : Graph) → IsGraph g → (x y : Digits) (s : State) (v : ℕ) (latch : Latch) → latch_at g v ≡ Some latch
    → value_within g y (after_step g x s) (2 * v) ≡ value_within g x s latch.next
later-latch_at g valid x y s v latch e =
    let place : LatchPlace g v latch = latch_place g v latch e in
    within-latch_at g valid y (after_step g x s) v latch e ∙ ap (next_value (value_within g x s)) place.there

-- the value of a gate, by its variable
pub within-gate_at : (g : Graph) → IsGraph g → (x : Digits) (s : State) (v : ℕ) (gate : Gate) → gate_at g v ≡ Some gate
    → value_within g x s (2 * v) ≡ (value_within g x s gate.rhs0 && value_within g x s gate.rhs1)
within-gate_at g valid x s v gate e =
    let place : GatePlace g v gate = gate_place g v gate e in
    let here : 2 * v ≡ 2 * (first_gate g + (v - first_gate g)) = omega arith in
    ap (value_within g x s) here ∙ (within_laws g valid x s).gate (v - first_gate g) gate place.there
