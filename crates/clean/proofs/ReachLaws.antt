-- All of a moved circuit is reached, if all of the circuit is.
use Rattle.std.proofs.Common.{ℕ, ◌+◌, ◌≡◌, ◌⊎◌, inl, inr, suc, zero, List, [], ◌∷◌, Bool, true, false, not, ◌||◌, ◌&&◌, Some, slice_get, refl, arith, ap, sym, ◌∙◌}
use Rattle.std.specs.List.{list_any, enumerate_from}
use Rattle.std.proofs.lemmas.Bool.{cases_Bool, and_parts, or_cases, eqb-true, not-true}
use Rattle.std.proofs.lemmas.Option.{none-some, same_Some}
use Rattle.aig_graph.specs.declared.graph.Gate.{Gate}
use Rattle.aig_graph.specs.declared.graph.Latch.{Latch}
use Rattle.aig_graph.specs.Border.{is_fan_in, is_read, is_read_outside, reads}
use Rattle.aig_graph.specs.Graph.{variable, first_gate, gate_at}
use Rattle.aig_graph.specs.Move.{Move}
use Rattle.aig_graph.specs.Streams.{property_literals}
use Rattle.aig_graph.specs.Marking.{has}
use Rattle.aig_graph.proofs.FoldingLaws.{gate_at-first_gate}

-- an element that passes
any_where : {A : Type 0} (p : A → Bool) (xs : List A) → list_any p xs ≡ true → (k : ℕ) × (x : A) × (slice_get xs k ≡ Some x) × (p x ≡ true)
any_where p [] e = absurd (cc)
any_where p (x ∷ xs) e = elim (cases_Bool (p x)) [
  | inl pass ↦ (0, x, refl, pass)
  | inr fails ↦ elim (or_cases (p x) (list_any p xs) e) [
    | inl first ↦ (0, x, refl, first)
    | inr later ↦ (let rest = any_where p xs later in (suc rest.0, rest.1, rest.2, rest.3))
  ]
]

enumerated_at : {A : Type 0} (xs : List A) (n k m : ℕ) (x : A) → slice_get (enumerate_from n xs) k ≡ Some (m, x) → (m ≡ n + k) × (slice_get xs k ≡ Some x)
enumerated_at [] n k m x e = absurd (none-some (m, x) e)
enumerated_at {A} (y ∷ ys) n zero m x e =
    let same : (n, y) ≡ (m, x) = same_Some (n, y) (m, x) e in
    (omega (arith, ap (λ (p : ℕ × A). p.0) same), ap (λ (p : ℕ × A). Some p.1) same)
enumerated_at (y ∷ ys) n (suc k) m x e = let rest = enumerated_at ys (n + 1) k m x e in (omega (arith, rest.0), rest.1)

-- what reads a variable from outside the set
pub data Reader (m : Move) (w : ℕ) : Type 0 where
  by_outside : (v : ℕ) (gate : Gate) → gate_at m.circuit.aig v ≡ Some gate → has m.set v ≡ false → (w ≡ variable gate.rhs0) ⊎ (w ≡ variable gate.rhs1) → Reader m w
  by_latch : (j : ℕ) (latch : Latch) → slice_get m.circuit.aig.latches j ≡ Some latch → w ≡ variable latch.next → Reader m w
  by_property : (k lit : ℕ) → slice_get (property_literals m.circuit.props) k ≡ Some lit → w ≡ variable lit → Reader m w

-- a variable that is read from outside the set has a reader there
pub reader_of : (m : Move) (w : ℕ) → is_read m.circuit m.set w ≡ true → Reader m w
unfolding is_read_outside
reader_of m w e =
    let test = λ (x : ℕ × Gate). not (has m.set x.0) && is_fan_in w x.1 in
    let gates = list_any test (enumerate_from (first_gate m.circuit.aig) m.circuit.aig.gates) in
    let latches = list_any (λ (l : Latch). reads w l.next) m.circuit.aig.latches in
    elim (or_cases (gates || latches) (list_any (reads w) (property_literals m.circuit.props)) e) [
      | inl before ↦ elim (or_cases gates latches before) [
        | inl by_gate ↦ (
            let found = any_where test (enumerate_from (first_gate m.circuit.aig) m.circuit.aig.gates) by_gate in
            let at = enumerated_at m.circuit.aig.gates (first_gate m.circuit.aig) found.0 found.1.0 found.1.1 found.2 in
            let parts = and_parts (not (has m.set found.1.0)) (is_fan_in w found.1.1) found.3 in
            let here : gate_at m.circuit.aig found.1.0 ≡ Some found.1.1 = ap (gate_at m.circuit.aig) at.0 ∙ gate_at-first_gate m.circuit.aig found.0 ∙ at.1 in
            by_outside found.1.0 found.1.1 here (not-true (has m.set found.1.0) parts.0) (fan_in w found.1.1 parts.1))
        | inr by_next ↦ (
            let found = any_where (λ (l : Latch). reads w l.next) m.circuit.aig.latches by_next in
            by_latch found.0 found.1 found.2 (sym (eqb-true (variable found.1.next) w found.3)))
      ]
      | inr by_prop ↦ (
          let found = any_where (reads w) (property_literals m.circuit.props) by_prop in
          by_property found.0 found.1 found.2 (sym (eqb-true (variable found.1) w found.3)))
    ]
  where
    fan_in : (w : ℕ) (gate : Gate) → is_fan_in w gate ≡ true → (w ≡ variable gate.rhs0) ⊎ (w ≡ variable gate.rhs1)
    fan_in w gate e = elim (or_cases (reads w gate.rhs0) (reads w gate.rhs1) e) [
      | inl first ↦ inl (sym (eqb-true (variable gate.rhs0) w first))
      | inr second ↦ inr (sym (eqb-true (variable gate.rhs1) w second))
    ]
