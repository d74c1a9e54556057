-- Laws of the gate at a variable, and of what is folded up through gates.
use Rattle.std.proofs.Common.{ℕ, ◌+◌, ◌-◌, ◌<◌, ◌≡◌, suc, zero, Option, Some, None, refl, arith, Bool, true, false, cond, nat_le, slice_get, subst, ap, ◌∙◌}
use Rattle.std.proofs.lemmas.Bool.{leb-true, le-leb, cond-false, lt-leb}
use Rattle.std.proofs.lemmas.Option.{none-some}
use Rattle.aig_graph.specs.declared.graph.Gate.{Gate}
use Rattle.aig_graph.specs.Graph.{Graph, IsGraph, IsGateAt, variable, first_gate, gate_at}
use Rattle.aig_graph.specs.Folding.{fold_step, fold_to_depth, fold_gates}

-- before the first gate stands no gate
pub gate_at-before : (g : Graph) (v : ℕ) → v < first_gate g → gate_at g v ≡ None
gate_at-before g v h = cond-false _ _ _ (lt-leb _ _ h)

-- each gate stands at its place from the first gate's variable on
pub gate_at-first_gate : (g : Graph) (k : ℕ) → gate_at g (first_gate g + k) ≡ slice_get g.gates k
gate_at-first_gate g k =
    let at_or_after : nat_le (first_gate g) (first_gate g + k) ≡ true = le-leb _ _ (omega arith) in
    let place : first_gate g + k - first_gate g ≡ k = omega arith in
    rw (at_or_after, place)

-- what is found under a condition is there without it, and the condition holds
pub if_some : {A : Type 0} (b : Bool) (o : Option A) (y : A) → cond b o None ≡ Some y → (b ≡ true) × (o ≡ Some y)
if_some true o y e = (refl, e)
if_some false o y e = absurd (none-some y e)

-- a gate stands at its variable
pub gate_at-is : (g : Graph) → IsGraph g → (v : ℕ) (gate : Gate) → gate_at g v ≡ Some gate → IsGateAt v gate
gate_at-is g valid v gate e =
    let parts : (nat_le (first_gate g) v ≡ true) × (slice_get g.gates (v - first_gate g) ≡ Some gate) = if_some (nat_le (first_gate g) v) (slice_get g.gates (v - first_gate g)) gate e in
    let here : first_gate g + (v - first_gate g) ≡ v = omega (arith, leb-true (first_gate g) v parts.0) in
    let P : ℕ → Type 0 = λ n. IsGateAt n gate in
    subst P here (valid.gates _ gate parts.1)

fold_step-same : {A : Type 0} (leaf : ℕ → A) (rule : Gate → A → A → A) (r s : ℕ → A) (v : ℕ) (o : Option Gate)
    → ((gate : Gate) → o ≡ Some gate → (r (variable gate.rhs0) ≡ s (variable gate.rhs0)) × (r (variable gate.rhs1) ≡ s (variable gate.rhs1)))
    → fold_step leaf rule r v o ≡ fold_step leaf rule s v o
fold_step-same leaf rule r s v None same = refl
fold_step-same leaf rule r s v (Some gate) same = let both = same gate refl in cc

fold_to_depth-same : {A : Type 0} (g : Graph) → IsGraph g → (leaf : ℕ → A) (rule : Gate → A → A → A) (n m v : ℕ)
    → v < n → v < m → fold_to_depth g leaf rule n v ≡ fold_to_depth g leaf rule m v
unfolding fold_to_depth
fold_to_depth-same g valid leaf rule zero m v p q = absurd (omega arith)
fold_to_depth-same g valid leaf rule (suc n) zero v p q = absurd (omega arith)
fold_to_depth-same g valid leaf rule (suc n) (suc m) v p q =
    fold_step-same leaf rule (fold_to_depth g leaf rule n) (fold_to_depth g leaf rule m) v (gate_at g v) (λ gate e.
    let here : IsGateAt v gate = gate_at-is g valid v gate e in (
      fold_to_depth-same g valid leaf rule n m (variable gate.rhs0) (omega arith) (omega arith),
      fold_to_depth-same g valid leaf rule n m (variable gate.rhs1) (omega arith) (omega arith),
    ))

-- a variable that is no gate gets its own
pub fold_gates-leaf : {A : Type 0} (g : Graph) (leaf : ℕ → A) (rule : Gate → A → A → A) (v : ℕ)
    → gate_at g v ≡ None → fold_gates g leaf rule v ≡ leaf v
unfolding fold_gates fold_to_depth
fold_gates-leaf g leaf rule v e = ap (fold_step leaf rule (fold_to_depth g leaf rule v) v) e

-- a gate gets what the rule makes of what its fan-ins' variables get
pub fold_gates-gate : {A : Type 0} (g : Graph) → IsGraph g → (leaf : ℕ → A) (rule : Gate → A → A → A) (v : ℕ) (gate : Gate)
    → gate_at g v ≡ Some gate
    → fold_gates g leaf rule v ≡ rule gate (fold_gates g leaf rule (variable gate.rhs0)) (fold_gates g leaf rule (variable gate.rhs1))
unfolding fold_gates fold_to_depth
fold_gates-gate g valid leaf rule v gate e =
    let here : IsGateAt v gate = gate_at-is g valid v gate e in
    let first = fold_to_depth-same g valid leaf rule v (suc (variable gate.rhs0)) (variable gate.rhs0) (omega arith) (omega arith) in
    let second = fold_to_depth-same g valid leaf rule v (suc (variable gate.rhs1)) (variable gate.rhs1) (omega arith) (omega arith) in
    ap (fold_step leaf rule (fold_to_depth g leaf rule v) v) e ∙ cc
