-- Copies of gates have their values.
use Rattle.std.proofs.Common.{inl, inr, ℕ, ◌+◌, ◌-◌, ◌*◌, ◌<◌, ◌≤◌, ◌≡◌, Bool, ◌&&◌, nat_lt, [], ◌∷◌, length, get_or, slice_get, Some, arith, ap, sym, ◌∙◌, subst}
use Rattle.std.proofs.lemmas.Bool.{cases_lt, cond-true, cond-false, lt-ltb, le-ltb}
use Rattle.std.proofs.lemmas.List.{length_push, get_or_append_left, get_or_push}
use Rattle.aig_graph.specs.declared.graph.Gate.{Gate}
use Rattle.aig_graph.specs.Graph.{Graph, IsGraph, IsGateAt, first_gate, variable}
use Rattle.aig_graph.specs.Value.{signed, signed_as}
use Rattle.aig_graph.proofs.SignLaws.{value_signed, value_signed_as, variable-signed_as}
use Rattle.aig_graph.specs.Gates.{Gates, Grows, IsNegated, Respects, gates_end, gates_of}
use Rattle.gate_sharing.specs.Shared.{IsBoth, IsSharedLiteral}
use Rattle.gate_sharing.specs.Copies.{AreShared, Copy, CopiesValues, copied_end, copy_of, with_literal}
use Rattle.gate_sharing.proofs.SharedLaws.{shared-more}

-- a literal before the first variable is its own
pub copy-low : (c : Copy) (lit : ℕ) → variable lit < c.first → copy_of c lit ≡ lit
unfolding copy_of
copy-low c lit less = cond-true (nat_lt (variable lit) c.first) lit (signed_as lit (get_or c.literals (variable lit - c.first) 0)) (lt-ltb (variable lit) c.first less)

-- a literal from the first variable on is that which the list has for the variable, with the
-- literal's sign
pub copy-from : (c : Copy) (lit : ℕ) → c.first ≤ variable lit → copy_of c lit ≡ signed_as lit (get_or c.literals (variable lit - c.first) 0)
unfolding copy_of
copy-from c lit more = cond-false (nat_lt (variable lit) c.first) lit (signed_as lit (get_or c.literals (variable lit - c.first) 0)) (le-ltb (variable lit) c.first more)

-- literals of leaves are shared where each listed one is, and all variables before the first are
pub leaves-shared : (k : Gates) (leaves : Copy) → leaves.first ≤ gates_end k → ((j : ℕ) → j < length leaves.literals → IsSharedLiteral k (get_or leaves.literals j 0)) → AreShared k leaves
leaves-shared k leaves few each lit less = elim (cases_lt (variable lit) leaves.first) [
  | inl before ↦ (let P : ℕ → Type 0 = λ n. IsSharedLiteral k n in subst P (sym (copy-low leaves lit before)) (omega (arith, before, few)))
  | inr from ↦ (
      let here : IsSharedLiteral k (get_or leaves.literals (variable lit - leaves.first) 0) = each (variable lit - leaves.first) (omega (arith, less, from)) in
      let P : ℕ → Type 0 = λ n. IsSharedLiteral k n in
      let inside : IsSharedLiteral k (signed_as lit (get_or leaves.literals (variable lit - leaves.first) 0)) = omega (arith, here) in
      subst P (sym (copy-from leaves lit from)) inside)
]

module _ (c : Copy) (new : ℕ) where
  -- one literal more leaves the literals of the variables before as they were
  pub copy-before : (lit : ℕ) → variable lit < copied_end c → copy_of (with_literal c new) lit ≡ copy_of c lit
  copy-before lit less = elim (cases_lt (variable lit) c.first) [
    | inl low ↦ copy-low (with_literal c new) lit low ∙ sym (copy-low c lit low)
    | inr from ↦
        copy-from (with_literal c new) lit from
        ∙ ap (signed_as lit) (get_or_append_left c.literals (new ∷ []) 0 (variable lit - c.first) (omega (arith, less, from)))
        ∙ sym (copy-from c lit from)
  ]

  -- the variable that comes next gets the new literal, with the sign of what is copied
  pub copy-last : (lit : ℕ) → variable lit ≡ copied_end c → copy_of (with_literal c new) lit ≡ signed_as lit new
  copy-last lit last =
      let from : c.first ≤ variable lit = omega (arith, last) in
      copy-from (with_literal c new) lit from
      ∙ ap (signed_as lit) (get_or_push c.literals new 0 (variable lit - c.first) (omega (arith, last)))

  -- one literal more moves the copy's end by one variable
  pub end-more : copied_end (with_literal c new) ≡ copied_end c + 1
  end-more = omega (arith, length_push c.literals new)

  -- a copy's literals and a new one that is shared are shared after the gates have grown
  pub shared-push : (k l : Gates) → Grows k l → AreShared k c → IsSharedLiteral l new → AreShared l (with_literal c new)
  shared-push k l grows within here lit less = elim (cases_lt (variable lit) (copied_end c)) [
    | inl before ↦ (let P : ℕ → Type 0 = λ n. IsSharedLiteral l n in subst P (sym (copy-before lit before)) (shared-more k l grows (copy_of c lit) (within lit before)))
    | inr rest ↦ (
        let last : variable lit ≡ copied_end c = omega (arith, less, rest, end-more) in
        let P : ℕ → Type 0 = λ n. IsSharedLiteral l n in
        let same : variable (signed_as lit new) ≡ variable new = variable-signed_as lit new in
        let inside : IsSharedLiteral l (signed_as lit new) = omega (arith, same, here) in
        subst P (sym (copy-last lit last)) inside)
  ]

  -- a copy follows one variable more where the new literal has the value of that variable
  pub follows-push : (values own : ℕ → Bool) → IsNegated values → IsNegated own → CopiesValues c (copied_end c) values own → values new ≡ own (2 * copied_end c)
      → CopiesValues (with_literal c new) (copied_end c + 1) values own
  follows-push values own negated own_negated follows here lit less = elim (cases_lt (variable lit) (copied_end c)) [
    | inl before ↦ ap values (copy-before lit before) ∙ follows lit before
    | inr rest ↦ (
        let last : variable lit ≡ copied_end c = omega (arith, less, rest) in
        ap values (copy-last lit last)
        ∙ value_signed_as values negated lit new
        ∙ ap (signed lit) (here ∙ ap (λ (n : ℕ). own (2 * n)) (sym last))
        ∙ sym (value_signed own own_negated lit))
  ]

-- one more gate copied: a and b stand for its fan-ins, lit for their conjunction, and new for that
module _ (g : Graph) (k l : Gates) (grows : Grows k l) (gate : Gate) (i : ℕ) (there : slice_get g.gates i ≡ Some gate) (valid : IsGraph g) (c : Copy) (long : copied_end c ≡ first_gate g + i) where
  -- the fan-ins of the next gate have been copied
  pub fan-ins-there : (variable gate.rhs0 < copied_end c) × (variable gate.rhs1 < copied_end c)
  fan-ins-there =
      let at : IsGateAt (first_gate g + i) gate = valid.gates i gate there in
      (omega (arith, at.below, long), omega (arith, at.below, at.ordered, long))

  -- with a literal of the value of its fan-ins' conjunction the next gate is followed too
  pub gate-copied : (a b lit new : ℕ) (values own : ℕ → Bool) → Respects l values → Respects (gates_of g) own → IsBoth l a b lit
      → values a ≡ values (copy_of c gate.rhs0) → values b ≡ values (copy_of c gate.rhs1) → values new ≡ values lit → CopiesValues c (copied_end c) values own
      → CopiesValues (with_literal c new) (copied_end c + 1) values own
  gate-copied a b lit new values own respects of_own both first second last follows =
      let here : values new ≡ own (2 * copied_end c) =
      last ∙ both.is values respects
      ∙ ap (λ (p : Bool). p && values b) (first ∙ follows gate.rhs0 fan-ins-there.0)
      ∙ ap (λ (p : Bool). own gate.rhs0 && p) (second ∙ follows gate.rhs1 fan-ins-there.1)
      ∙ sym (of_own.gates i gate there)
      ∙ ap (λ (n : ℕ). own (2 * n)) (sym long) in
      follows-push c new values own respects.negation of_own.negation follows here
