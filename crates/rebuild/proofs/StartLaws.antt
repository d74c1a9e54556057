-- The value at step 0 of a passable gate rests on no input and no choice.
use Rattle.std.proofs.Common.{ℕ, cond, cond, ◌+◌, ◌-◌, ◌*◌, ◌<◌, ◌≡◌, inl, inr, suc, zero, List, Bool, true, false, not, ◌&&◌, Option, Some, None, refl, arith, ap, sym, ◌∙◌}
use Rattle.std.proofs.lemmas.Bool.{and_parts, cond-true, cond-false, not-true}
use Rattle.aig_graph.proofs.ClosedLaws.{is_settled-gate, movable-latch}
use Rattle.aig_graph.proofs.FoldingLaws.{fold_gates-leaf, gate_at-before, gate_at-is}
use Rattle.aig_graph.proofs.KindLaws.{GatePlace, LatchPlace, gate_place, latch_place}
use Rattle.aig_graph.proofs.SetLaws.{passable_law}
use Rattle.aig_graph.proofs.SearchLaws.{has_iff_contains}
use Rattle.aig_graph.proofs.ValueLaws.{value_laws}
use Rattle.aig_graph.specs.Closed.{IsClosed, IsPassable, both, is_held, is_settled, may_move}
use Rattle.aig_graph.specs.Graph.{Graph, IsGateAt, IsGraph, first_gate, first_latch, free_before, gate_at, is_free, is_known, latch_at, variable}
use Rattle.aig_graph.specs.Laws.{MayMoveOrPassable}
use Rattle.aig_graph.specs.Move.{Move}
use Rattle.aig_graph.specs.Value.{Choice, Inputs, opening, reset_to, signed, value}
use Rattle.aig_graph.specs.declared.graph.Gate.{Gate}
use Rattle.aig_graph.specs.declared.graph.Latch.{Latch}
use Rattle.aig_graph.specs.declared.graph.Reset.{Reset}
use Rattle.aig_graph.specs.declared.graph.Reset.TheVariants.{Free, One, Zero}
use Rattle.aig_graph.proofs.SignLaws.{value_signed}
use Rattle.rebuild.specs.Laws.{StartLaw}
use Rattle.rebuild.specs.Starting.{and_reset, literal_start, start_reset, start_value}
use Rattle.aig_graph.specs.Marking.{has}

-- the value of a latch and of a gate, by its variable
pub value-latch_start : (g : Graph) → IsGraph g → (x : Inputs) (f : Choice) (v : ℕ) (latch : Latch) → latch_at g v ≡ Some latch
    → value g x f 0 (2 * v) ≡ opening latch.reset (f (free_before g (v - first_latch g)))
value-latch_start g valid x f v latch e =
    let place : LatchPlace g v latch = latch_place g v latch e in
    let here : 2 * v ≡ 2 * (first_latch g + (v - first_latch g)) = omega arith in
    ap (value g x f 0) here ∙ (value_laws g valid x f).latch_at_start (v - first_latch g) latch place.there

-- a latch holds a step later what its next literal is now
pub value-latch_later : (g : Graph) → IsGraph g → (x : Inputs) (f : Choice) (t v : ℕ) (latch : Latch) → latch_at g v ≡ Some latch
    → value g x f (t + 1) (2 * v) ≡ value g x f t latch.next
value-latch_later g valid x f t v latch e =
    let place : LatchPlace g v latch = latch_place g v latch e in
    let here : 2 * v ≡ 2 * (first_latch g + (v - first_latch g)) = omega arith in
    ap (value g x f (t + 1)) here ∙ (value_laws g valid x f).latch_later t (v - first_latch g) latch place.there

-- a gate has the AND of its fan-ins' values
pub value-gate : (g : Graph) → IsGraph g → (x : Inputs) (f : Choice) (t v : ℕ) (gate : Gate) → gate_at g v ≡ Some gate
    → value g x f t (2 * v) ≡ (value g x f t gate.rhs0 && value g x f t gate.rhs1)
value-gate g valid x f t v gate e =
    let place : GatePlace g v gate = gate_place g v gate e in
    let here : 2 * v ≡ 2 * (first_gate g + (v - first_gate g)) = omega arith in
    ap (value g x f t) here ∙ (value_laws g valid x f).gate t (v - first_gate g) gate place.there

-- the value of a latch at step 0
pub start-latch : (g : Graph) → IsGraph g → (v : ℕ) (latch : Latch) → latch_at g v ≡ Some latch → start_value g v ≡ opening latch.reset false
unfolding start_value
start-latch g valid v latch e = value-latch_start g valid (λ t i. false) (λ j. false) v latch e

opening-known : (r : Reset) (next : ℕ) (a b : Bool) → not (is_free (record { next = next; reset = r })) ≡ true → opening r a ≡ opening r b
opening-known Zero next a b known = refl
opening-known One next a b known = refl
opening-known Free next a b known = absurd (cc)

-- the value of a gate at step 0, from those of its fan-ins
pub start-gate : (g : Graph) → IsGraph g → (v : ℕ) (gate : Gate) → gate_at g v ≡ Some gate
    → start_value g v ≡ (signed gate.rhs0 (start_value g (variable gate.rhs0)) && signed gate.rhs1 (start_value g (variable gate.rhs1)))
unfolding start_value
start-gate g valid v gate e =
    let x : Inputs = λ t i. false in
    let f : Choice = λ j. false in
    let laws = value_laws g valid x f in
    value-gate g valid x f 0 v gate e
    ∙ ap (λ (b : Bool). b && value g x f 0 gate.rhs1) (value_signed (value g x f 0) (laws.negation 0) gate.rhs0)
    ∙ ap (λ (b : Bool). signed gate.rhs0 (value g x f 0 (2 * variable gate.rhs0)) && b) (value_signed (value g x f 0) (laws.negation 0) gate.rhs1)

-- a latch that may move has a known reset
movable-known : (g : Graph) (held : List ℕ) (v : ℕ) (latch : Latch) → latch_at g v ≡ Some latch → may_move g held v ≡ true → is_free latch ≡ false
movable-known g held v latch e movable =
    let parts = and_parts (not (is_held g held v)) (is_known (latch_at g v)) movable in
    not-true (is_free latch) (ap is_known (sym e) ∙ parts.1)

module _ (g : Graph) (held : List ℕ) (valid : IsGraph g) (x y : Inputs) (f e : Choice) where
  same_start : (n v : ℕ) → v < n → MayMoveOrPassable g held v → value g x f 0 (2 * v) ≡ value g y e 0 (2 * v)
  same_start zero v h rests = absurd (omega arith)
  same_start (suc n) v h (inl movable) =
      let there = movable-latch g held v movable in
      let latch : Latch = there.0 in
      let known : not (is_free latch) ≡ true = ap not (movable-known g held v latch there.1 movable) in
      value-latch_start g valid x f v latch there.1
      ∙ opening-known latch.reset latch.next (f (free_before g (v - first_latch g))) (e (free_before g (v - first_latch g))) known
      ∙ sym (value-latch_start g valid y e v latch there.1)
  same_start (suc n) v h (inr passable) =
      let rest = (passable_law g held v valid).0 passable in
      let gate : Gate = rest.0 in
      let at : IsGateAt v gate = gate_at-is g valid v gate rest.1 in
      let first = same_start n (variable gate.rhs0) (omega arith) rest.2 in
      let second = same_start n (variable gate.rhs1) (omega arith) rest.3 in
      let left : value g x f 0 gate.rhs0 ≡ value g y e 0 gate.rhs0 =
      value_signed (value g x f 0) ((value_laws g valid x f).negation 0) gate.rhs0 ∙ ap (signed gate.rhs0) first ∙ sym (value_signed (value g y e 0) ((value_laws g valid y e).negation 0) gate.rhs0) in
      let right : value g x f 0 gate.rhs1 ≡ value g y e 0 gate.rhs1 =
      value_signed (value g x f 0) ((value_laws g valid x f).negation 0) gate.rhs1 ∙ ap (signed gate.rhs1) second ∙ sym (value_signed (value g y e 0) ((value_laws g valid y e).negation 0) gate.rhs1) in
      value-gate g valid x f 0 v gate rest.1
      ∙ ap (λ (b : Bool). b && value g x f 0 gate.rhs1) left ∙ ap (λ (b : Bool). value g y e 0 gate.rhs0 && b) right
      ∙ sym (value-gate g valid y e 0 v gate rest.1)

-- so a passable gate has its value at step 0 whatever comes in
pub value-passable : (g : Graph) (held : List ℕ) → IsGraph g → (x : Inputs) (f : Choice) (v : ℕ) → IsPassable g held v → start_value g v ≡ value g x f 0 (2 * v)
unfolding start_value
value-passable g held valid x f v passable = same_start g held valid (λ t i. false) x (λ j. false) f (suc v) v (omega arith) (inr passable)

-- the reset of a passable gate is its value at step 0, whatever comes in
pub start_law : (g : Graph) (held : List ℕ) → IsGraph g → StartLaw g held
unfolding start_reset
start_law g held valid = λ v x f passable.
    cond-true (is_settled g held v) (reset_to (start_value g v)) Free passable.2 ∙ ap reset_to (value-passable g held valid x f v passable)

-- and so has a member of a closed set
pub value-start_value : (m : Move) → IsGraph m.circuit.aig → IsClosed m.circuit.aig m.held m.set → (x : Inputs) (f : Choice) (v : ℕ) → has m.set v ≡ true
    → start_value m.circuit.aig v ≡ value m.circuit.aig x f 0 (2 * v)
value-start_value m valid closed x f v member = value-passable m.circuit.aig m.held valid x f v (closed.passable v ((has_iff_contains m.set v).0 member))

-- a latch with the reset of a value holds that value at step 0
pub opening-reset_to : (b a : Bool) → opening (reset_to b) a ≡ b
opening-reset_to true a = refl
opening-reset_to false a = refl

-- the reset of a latch that may move, and of what neither may move nor is a gate
module _ (g : Graph) (held : List ℕ) where
  settled-leaf : (v : ℕ) → v < first_gate g → is_settled g held v ≡ may_move g held v
  unfolding is_settled
  settled-leaf v h = fold_gates-leaf g (may_move g held) both v (gate_at-before g v h)

  -- what is no gate and may not move has the reset of a free latch
  pub start_reset-unmoved : (v : ℕ) → v < first_gate g → may_move g held v ≡ false → start_reset g held v ≡ Free
  unfolding start_reset
  start_reset-unmoved v h unmoved = cond-false (is_settled g held v) (reset_to (start_value g v)) Free (settled-leaf v h ∙ unmoved)

  -- a latch that may move has its own reset
  pub start_reset-latch : IsGraph g → (v : ℕ) (latch : Latch) → latch_at g v ≡ Some latch → may_move g held v ≡ true → start_reset g held v ≡ latch.reset
  unfolding start_reset
  start_reset-latch valid v latch e movable =
      let place : LatchPlace g v latch = latch_place g v latch e in
      cond-true (is_settled g held v) (reset_to (start_value g v)) Free (settled-leaf v place.below ∙ movable)
      ∙ ap reset_to (start-latch g valid v latch e)
      ∙ known_reset latch.reset latch.next (movable-known g held v latch e movable)
    where
      known_reset : (r : Reset) (next : ℕ) → is_free (record { next = next; reset = r }) ≡ false → reset_to (opening r false) ≡ r
      known_reset Zero next known = refl
      known_reset One next known = refl
      known_reset Free next known = absurd (cc)

  -- and of a gate, from those of its fan-ins
  pub start_reset-gate : IsGraph g → (v : ℕ) (gate : Gate) → gate_at g v ≡ Some gate
      → start_reset g held v ≡ and_reset (literal_start gate.rhs0 (start_reset g held (variable gate.rhs0))) (literal_start gate.rhs1 (start_reset g held (variable gate.rhs1)))
  unfolding start_reset
  start_reset-gate valid v gate e =
      let first : ℕ = variable gate.rhs0 in
      let second : ℕ = variable gate.rhs1 in
      let settled : is_settled g held v ≡ (is_settled g held first && is_settled g held second) = is_settled-gate g held valid v gate e in
      let value : start_value g v ≡ (signed gate.rhs0 (start_value g first) && signed gate.rhs1 (start_value g second)) = start-gate g valid v gate e in
      ap (λ (b : Bool). cond b (reset_to (start_value g v)) Free) settled
      ∙ ap (λ (b : Bool). cond (is_settled g held first && is_settled g held second) (reset_to b) Free) value
      ∙ go (is_settled g held first) (is_settled g held second) (start_value g first) (start_value g second)
    where
      literal-known : (lit : ℕ) (b : Bool) → literal_start lit (reset_to b) ≡ Some (signed lit b)
      literal-known lit true = refl
      literal-known lit false = refl

      none-left : (o : Option Bool) → and_reset None o ≡ Free
      none-left o = refl

      none-right : (o : Option Bool) → and_reset o None ≡ Free
      none-right None = refl
      none-right (Some b) = refl

      go : (a b p q : Bool) → cond (a && b) (reset_to (signed gate.rhs0 p && signed gate.rhs1 q)) Free
          ≡ and_reset (literal_start gate.rhs0 (cond a (reset_to p) Free)) (literal_start gate.rhs1 (cond b (reset_to q) Free))
      go true true p q = sym (ap (λ (o : Option Bool). and_reset o (literal_start gate.rhs1 (reset_to q))) (literal-known gate.rhs0 p) ∙ ap (and_reset (Some (signed gate.rhs0 p))) (literal-known gate.rhs1 q))
      go true false p q = sym (none-right (literal_start gate.rhs0 (reset_to p)))
      go false b p q = sym (none-left (literal_start gate.rhs1 (cond b (reset_to q) Free)))
