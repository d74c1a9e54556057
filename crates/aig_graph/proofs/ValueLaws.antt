-- What the value of a literal is, by what it is of.
use Rattle.std.proofs.Common.{ℕ, ◌+◌, ◌-◌, ◌*◌, ◌%◌, ◌<◌, ◌≡◌, suc, length, Some, arith, Bool, false, not, ◌&&◌, slice_get, ap, sym, ◌∙◌, ne_eqb, add-one}
use Rattle.std.proofs.lemmas.Bool.{cond-true, cond-false, lt-ltb, le-ltb}
use Rattle.std.proofs.lemmas.Option.{slice_get_within}
use Rattle.aig_graph.specs.declared.graph.Gate.{Gate}
use Rattle.aig_graph.specs.Graph.{Graph, IsGraph, variable, first_latch, first_gate}
use Rattle.aig_graph.specs.Folding.{fold_gates}
use Rattle.aig_graph.specs.Value.{latch_value, Inputs, Choice, value, value_within, leaf_value, signed, conjunction, opening_at, next_value}
use Rattle.aig_graph.specs.Laws.{ValueLaws}
use Rattle.aig_graph.proofs.FoldingLaws.{gate_at-before, gate_at-first_gate, fold_gates-leaf, fold_gates-gate}

variable-even : (v : ℕ) → variable (2 * v) ≡ v
variable-even v = omega arith

variable-odd : (v : ℕ) → variable (2 * v + 1) ≡ v
variable-odd v = omega arith

signed-even : (v : ℕ) (b : Bool) → signed (2 * v) b ≡ b
signed-even v b = let even : (2 * v) % 2 ≡ 0 = omega arith in rw even

signed-odd : (v : ℕ) (b : Bool) → signed (2 * v + 1) b ≡ not b
signed-odd v b = let odd : (2 * v + 1) % 2 ≡ 1 = omega arith in rw odd

module _ (g : Graph) (inputs latches : ℕ → Bool) where
  leaf-input : (i : ℕ) → i < g.inputs → leaf_value g inputs latches (1 + i) ≡ inputs i
  leaf-input i h =
      let place : 1 + i - 1 ≡ i = omega arith in
      cond-false _ _ _ (ne_eqb (1 + i) 0 (omega arith)) ∙ cond-true _ _ _ (lt-ltb (1 + i) (first_latch g) (omega arith)) ∙ ap inputs place

  leaf-latch : (j : ℕ) → leaf_value g inputs latches (first_latch g + j) ≡ latches j
  leaf-latch j =
      let place : first_latch g + j - first_latch g ≡ j = omega arith in
      cond-false _ _ _ (ne_eqb (first_latch g + j) 0 (omega arith)) ∙ cond-false _ _ _ (le-ltb (first_latch g + j) (first_latch g) (omega arith)) ∙ ap latches place

  -- an even literal has its variable's value
  within-even : (v : ℕ) → value_within g inputs latches (2 * v) ≡ fold_gates g (leaf_value g inputs latches) conjunction v
  within-even v = signed-even v (fold_gates g (leaf_value g inputs latches) conjunction (variable (2 * v))) ∙ ap (fold_gates g (leaf_value g inputs latches) conjunction) (variable-even v)

  -- a negated literal has the other value
  pub within-odd : (v : ℕ) → value_within g inputs latches (2 * v + 1) ≡ not (value_within g inputs latches (2 * v))
  within-odd v =
      signed-odd v (fold_gates g (leaf_value g inputs latches) conjunction (variable (2 * v + 1)))
      ∙ ap (λ w. not (fold_gates g (leaf_value g inputs latches) conjunction w)) (variable-odd v)
      ∙ ap not (sym (within-even v))

  -- the constant is 0
  pub within-constant : value_within g inputs latches 0 ≡ false
  within-constant = fold_gates-leaf g (leaf_value g inputs latches) conjunction 0 (gate_at-before g 0 (omega arith))

  -- an input's literal has the input's digit
  pub within-input : (i : ℕ) → i < g.inputs → value_within g inputs latches (2 * (1 + i)) ≡ inputs i
  within-input i h =
      within-even (1 + i) ∙ fold_gates-leaf g (leaf_value g inputs latches) conjunction (1 + i) (gate_at-before g (1 + i) (omega arith)) ∙ leaf-input i h

  -- a latch's literal has what the latch holds
  pub within-latch : (j : ℕ) → j < length g.latches → value_within g inputs latches (2 * (first_latch g + j)) ≡ latches j
  within-latch j h =
      within-even (first_latch g + j) ∙ fold_gates-leaf g (leaf_value g inputs latches) conjunction (first_latch g + j) (gate_at-before g (first_latch g + j) (omega arith)) ∙ leaf-latch j

  -- a gate's literal is 1 if both fan-ins are
  pub within-gate : IsGraph g → (k : ℕ) (gate : Gate) → slice_get g.gates k ≡ Some gate
      → value_within g inputs latches (2 * (first_gate g + k)) ≡ (value_within g inputs latches gate.rhs0 && value_within g inputs latches gate.rhs1)
  within-gate valid k gate e =
      within-even (first_gate g + k) ∙ fold_gates-gate g valid (leaf_value g inputs latches) conjunction (first_gate g + k) gate (gate_at-first_gate g k ∙ e)

-- the value of a constant, an input, a latch at step 0 and later, a gate and a negation is what it
-- should be
pub value_laws : (g : Graph) → IsGraph g → (x : Inputs) (f : Choice) → ValueLaws g x f
unfolding value latch_value
value_laws g valid x f = record {
  constant = λ t. within-constant g (x t) (latch_value g x f t);
  input = λ t i h. within-input g (x t) (latch_value g x f t) i h;
  latch_at_start = λ j latch e.
      within-latch g (x 0) (latch_value g x f 0) j (slice_get_within g.latches j latch e) ∙ ap (opening_at g f j) e;
  latch_later = λ t j latch e. rw add-one (
      within-latch g (x (suc t)) (latch_value g x f (suc t)) j (slice_get_within g.latches j latch e) ∙ ap (next_value (value_within g (x t) (latch_value g x f t))) e);
  gate = λ t k gate e. within-gate g (x t) (latch_value g x f t) valid k gate e;
  negation = λ t v. within-odd g (x t) (latch_value g x f t) v;
}
