-- What three gates say of two literals.
use Rattle.std.proofs.Common.{inl, inr, ℕ, ◌+◌, ◌-◌, ◌*◌, ◌/◌, ◌%◌, ◌≡◌, ◌≢◌, ◌↔◌, IsTrue, Bool, true, false, not, ◌&&◌, Some, refl, arith, ap, sym, ◌∙◌}
use Rattle.std.proofs.Math.Bool.{not-not}
use Rattle.std.proofs.lemmas.Bool.{cases_eq, false≢true}
use Rattle.aig_graph.specs.declared.graph.Gate.{Gate}
use Rattle.aig_graph.specs.Graph.{Graph, IsGraph, IsGateAt, IsLiteralOf, first_gate, gate_at, variable}
use Rattle.aig_graph.proofs.FoldingLaws.{gate_at-is}
use Rattle.aig_graph.proofs.KindLaws.{GatePlace, gate_place}
use Rattle.aig_graph.specs.Gates.{IsNegated, Respects, gates_of}
use Rattle.map_checks.specs.Facts.{IsFact}

-- the literal of this variable with the other sign
pub negated-literal : (own : ℕ → Bool) → IsNegated own → (lit other : ℕ) → other / 2 ≡ lit / 2 → other % 2 ≢ lit % 2 → own other ≡ not (own lit)
negated-literal own negated lit other same sign = elim (cases_eq (lit % 2) 0) [
  | inl even ↦ (
      let odd : other % 2 ≡ 1 = omega (arith, even, sign) in
      let this : own lit ≡ own (2 * variable lit) = (let place : lit ≡ 2 * variable lit = omega (arith, even) in ap own place) in
      let place : other ≡ 2 * variable lit + 1 = omega (arith, odd, same) in
      ap own place ∙ negated (variable lit) ∙ ap not (sym this))
  | inr odd ↦ (
      let one : lit % 2 ≡ 1 = omega (arith, odd) in
      let even : other % 2 ≡ 0 = omega (arith, one, sign) in
      let here : lit ≡ 2 * variable lit + 1 = omega (arith, one) in
      let place : other ≡ 2 * variable lit = omega (arith, even, same) in
      ap own place ∙ sym (not-not (own (2 * variable lit))) ∙ ap not (sym (ap own here ∙ negated (variable lit))))
]

-- a gate's value, by its variable
pub gate-value : (g : Graph) (own : ℕ → Bool) → Respects (gates_of g) own → (v : ℕ) (gate : Gate) → gate_at g v ≡ Some gate → own (2 * v) ≡ (own gate.rhs0 && own gate.rhs1)
gate-value g own respects v gate e =
    let place : GatePlace g v gate = gate_place g v gate e in
    let here : 2 * v ≡ 2 * (first_gate g + (v - first_gate g)) = omega (arith, place.from) in
    ap own here ∙ respects.gates (v - first_gate g) gate place.there

-- neither p nor q is 1 without the other
pub unequal : (p q : Bool) → (not (p && q) && not (not p && not q)) ≡ true → p ≡ not q
unequal true true e = sym e
unequal true false e = refl
unequal false true e = refl
unequal false false e = e

module _ (g : Graph) (valid : IsGraph g) (lit : ℕ) (both above below : Gate) (even : lit % 2 ≡ 0) (odd0 : both.rhs0 % 2 ≡ 1) (odd1 : both.rhs1 % 2 ≡ 1)
    (here : gate_at g (variable lit) ≡ Some both) (one : gate_at g (variable both.rhs0) ≡ Some above) (two : gate_at g (variable both.rhs1) ≡ Some below)
    (other0 other1 side : ℕ) (first : above.rhs0 ≡ other0) (second : above.rhs1 ≡ other1)
    (same0 : other0 / 2 ≡ below.rhs0 / 2) (sign0 : other0 % 2 ≢ below.rhs0 % 2) (same1 : other1 / 2 ≡ below.rhs1 / 2) (sign1 : other1 % 2 ≢ below.rhs1 % 2)
    (same2 : side / 2 ≡ above.rhs1 / 2) (sign2 : side % 2 ≢ above.rhs1 % 2) where
  odd-value : (own : ℕ → Bool) → IsNegated own → (l : ℕ) → l % 2 ≡ 1 → own l ≡ not (own (2 * variable l))
  odd-value own negated l odd = (let place : l ≡ 2 * variable l + 1 = omega (arith, odd) in ap own place) ∙ negated (variable l)

  sides-equal : (own : ℕ → Bool) → Respects (gates_of g) own → own lit ≡ true → own above.rhs0 ≡ own side
  sides-equal own respects is =
      let at : lit ≡ 2 * variable lit = omega (arith, even) in
      let p : Bool = own above.rhs0 in
      let q : Bool = own above.rhs1 in
      let r : own below.rhs0 ≡ not p = sym (not-not (own below.rhs0)) ∙ ap not (sym (ap own first ∙ negated-literal own respects.negation below.rhs0 other0 same0 sign0)) in
      let s : own below.rhs1 ≡ not q = sym (not-not (own below.rhs1)) ∙ ap not (sym (ap own second ∙ negated-literal own respects.negation below.rhs1 other1 same1 sign1)) in
      let left : own both.rhs0 ≡ not (p && q) = odd-value own respects.negation both.rhs0 odd0 ∙ ap not (gate-value g own respects (variable both.rhs0) above one) in
      let right : own both.rhs1 ≡ not (not p && not q) =
      odd-value own respects.negation both.rhs1 odd1 ∙ ap not (gate-value g own respects (variable both.rhs1) below two ∙ ap (λ (b : Bool). b && own below.rhs1) r ∙ ap (λ (b : Bool). not p && b) s) in
      let whole : (not (p && q) && not (not p && not q)) ≡ true =
      sym (ap (λ (b : Bool). b && own both.rhs1) left ∙ ap (λ (b : Bool). not (p && q) && b) right)
      ∙ sym (gate-value g own respects (variable lit) both here) ∙ ap own (sym at) ∙ is in
      unequal p q whole ∙ sym (negated-literal own respects.negation above.rhs1 side same2 sign2)

  -- an exclusive or of two literals, made of three gates, says that one of them is the other
  -- negated
  pub is-compared : IsFact g lit (above.rhs0, side)
  is-compared =
      let place : GatePlace g (variable both.rhs0) above = gate_place g (variable both.rhs0) above one in
      let at : IsGateAt (variable both.rhs0) above = gate_at-is g valid (variable both.rhs0) above one in
      record {
        first = omega (arith, at.below, place.below);
        second = omega (arith, at.below, at.ordered, place.below, same2);
        equal = sides-equal;
      }

-- the literal is 1 itself
pub is-plain : (g : Graph) (lit : ℕ) → IsLiteralOf g lit → IsFact g lit (lit, 1)
is-plain g lit within = record {
  first = within;
  second = omega arith;
  equal = λ own respects is. is ∙ sym (respects.negation 0 ∙ ap not respects.constant);
}

-- a literal that isn't negated, and one that is
pub even-of : (lit : ℕ) (b : Bool) → (IsTrue b ↔ (lit % 2 ≡ 1)) → b ≡ false → lit % 2 ≡ 0
even-of lit true iff e = absurd (false≢true (sym e))
even-of lit false iff e = elim (cases_eq (lit % 2) 0) [
  | inl even ↦ even
  | inr odd ↦ absurd (false≢true (iff.1 (omega (arith, odd))))
]

-- a literal is odd where the test whether the literal is negated holds
pub odd-of : (lit : ℕ) (b : Bool) → (IsTrue b ↔ (lit % 2 ≡ 1)) → b ≡ true → lit % 2 ≡ 1
odd-of lit true iff e = iff.0 refl
odd-of lit false iff e = absurd (false≢true e)
