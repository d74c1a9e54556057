-- What is read from outside two sets of gates.
use Rattle.std.proofs.Common.{◌≡◌, ℕ, suc, zero, ◌+◌, ◌-◌, Bool, true, false, not, ◌&&◌, ◌||◌, List, [], ◌∷◌, Option, Some, None, slice_get, arith, refl, ap, ap₂, sym, ◌∙◌, subst, inl, inr}
use Rattle.std.specs.List.{list_any, enumerate_from}
use Rattle.std.proofs.lemmas.Bool.{or_cases, or_parts, or_left, or_right, and_parts, not-true}
use Rattle.std.proofs.lemmas.Option.{none-some, same_Some}
use Rattle.aig_graph.specs.declared.graph.Gate.{Gate}
use Rattle.aig_graph.specs.declared.graph.Latch.{Latch}
use Rattle.aig_graph.specs.declared.properties.Props.{Props}
use Rattle.aig_graph.specs.Graph.{Graph, first_gate, gate_at}
use Rattle.aig_graph.specs.Streams.{property_literals}
use Rattle.aig_graph.specs.Border.{reads, is_fan_in, is_read_outside}
use Rattle.aig_graph.proofs.FoldingLaws.{gate_at-first_gate}
use Rattle.aig_graph.proofs.KindLaws.{GatePlace, gate_place}
use Rattle.frame_net.specs.Capacity.{gate_reads}
use Rattle.frame_net.proofs.PassableLaws.{gate_cases}

any-split : {X : Type 0} (p q : ℕ × X → Bool) (first : ℕ) (xs : List X) → list_any p (enumerate_from first xs) ≡ true → list_any q (enumerate_from first xs) ≡ false
    → (k : ℕ) × (x : X) × (slice_get xs k ≡ Some x) × (p (first + k, x) ≡ true) × (q (first + k, x) ≡ false)
any-split p q first [] a b = absurd (cc)
any-split {X} p q first (x ∷ xs) a b =
    let parts = or_parts (q (first, x)) (list_any q (enumerate_from (first + 1) xs)) b in
    elim (or_cases (p (first, x)) (list_any p (enumerate_from (first + 1) xs)) a) [
      | inl here ↦ (
          let same : first ≡ first + 0 = omega arith in
          (0, x, refl, subst (λ (n : ℕ). p (n, x) ≡ true) same here, subst (λ (n : ℕ). q (n, x) ≡ false) same parts.0))
      | inr later ↦ (
          let t = any-split p q (first + 1) xs later parts.1 in
          let same : first + 1 + t.0 ≡ first + suc t.0 = omega arith in
          (suc t.0, t.1, t.2, subst (λ (n : ℕ). p (n, t.1) ≡ true) same t.3, subst (λ (n : ℕ). q (n, t.1) ≡ false) same t.4))
    ]

any-here : {X : Type 0} (p : ℕ × X → Bool) (first : ℕ) (xs : List X) (k : ℕ) (x : X) → slice_get xs k ≡ Some x → p (first + k, x) ≡ true → list_any p (enumerate_from first xs) ≡ true
any-here p first [] k x e a = absurd (none-some x e)
any-here {X} p first (y ∷ ys) zero x e a =
    let same : y ≡ x = same_Some y x e in
    or_left (p (first, y)) (list_any p (enumerate_from (first + 1) ys)) (ap₂ (λ (n : ℕ) (z : X). p (n, z)) (omega arith) same ∙ a)
any-here p first (y ∷ ys) (suc k) x e a =
    let same : first + suc k ≡ first + 1 + k = omega arith in
    or_right (p (first, y)) (list_any p (enumerate_from (first + 1) ys)) (any-here p (first + 1) ys k x e (subst (λ (n : ℕ). p (n, x) ≡ true) same a))

abbrev reader : (ℕ → Bool) → ℕ → ℕ × Gate → Bool
reader inside v e = not (inside e.0) && is_fan_in v e.1

left_false : (a b : Bool) → (not a && b) ≡ false → b ≡ true → a ≡ true
left_false true b e h = refl
left_false false true e h = absurd (cc)
left_false false false e h = absurd (cc)

-- a gate in one set but not in the other that reads the variable
pub read-split : (g : Graph) (props : Props) (f h : ℕ → Bool) (v : ℕ) → is_read_outside g props f v ≡ true → is_read_outside g props h v ≡ false
    → (w : ℕ) × (gate_reads v (gate_at g w) ≡ true) × (f w ≡ false) × (h w ≡ true)
unfolding is_read_outside
read-split g props f h v a b =
    let parts = or_parts (list_any (λ (e : ℕ × Gate). not (h e.0) && is_fan_in v e.1) (enumerate_from (first_gate g) g.gates) || list_any (λ (latch : Latch). reads v latch.next) g.latches) (list_any (reads v) (property_literals props)) b in
    let more = or_parts (list_any (λ (e : ℕ × Gate). not (h e.0) && is_fan_in v e.1) (enumerate_from (first_gate g) g.gates)) (list_any (λ (latch : Latch). reads v latch.next) g.latches) parts.0 in
    let by_gate : list_any (λ (e : ℕ × Gate). not (f e.0) && is_fan_in v e.1) (enumerate_from (first_gate g) g.gates) ≡ true =
    first_of_three (list_any (λ (e : ℕ × Gate). not (f e.0) && is_fan_in v e.1) (enumerate_from (first_gate g) g.gates)) (list_any (λ (latch : Latch). reads v latch.next) g.latches) (list_any (reads v) (property_literals props)) a more.1 parts.1 in
    let t = any-split (λ (e : ℕ × Gate). not (f e.0) && is_fan_in v e.1) (λ (e : ℕ × Gate). not (h e.0) && is_fan_in v e.1) (first_gate g) g.gates by_gate more.0 in
    let is = and_parts (not (f (first_gate g + t.0))) (is_fan_in v t.1) t.3 in
    let at : gate_at g (first_gate g + t.0) ≡ Some t.1 = gate_at-first_gate g t.0 ∙ t.2 in (
      first_gate g + t.0,
      ap (λ (o : Option Gate). gate_reads v o) at ∙ is.1,
      not-true (f (first_gate g + t.0)) is.0,
      left_false (h (first_gate g + t.0)) (is_fan_in v t.1) t.4 is.1,
    )
  where
    first_of_three : (x y z : Bool) → ((x || y) || z) ≡ true → y ≡ false → z ≡ false → x ≡ true
    first_of_three true y z e p q = refl
    first_of_three false true z e p q = absurd (cc)
    first_of_three false false true e p q = absurd (cc)
    first_of_three false false false e p q = absurd (cc)

-- a gate outside that reads the variable
pub read-by_gate : (g : Graph) (props : Props) (f : ℕ → Bool) (v w : ℕ) → gate_reads v (gate_at g w) ≡ true → f w ≡ false → is_read_outside g props f v ≡ true
unfolding is_read_outside
read-by_gate g props f v w r out = elim (gate_cases g w) [
  | inl none ↦ absurd (no (gate_at g w) none r)
  | inr some ↦ (
      let place : GatePlace g w some.0 = gate_place g w some.0 some.1 in
      let same : first_gate g + (w - first_gate g) ≡ w = omega (arith, place.from) in
      let fan_in : is_fan_in v some.0 ≡ true = sym (ap (λ (o : Option Gate). gate_reads v o) some.1) ∙ r in
      let here : (not (f (first_gate g + (w - first_gate g))) && is_fan_in v some.0) ≡ true =
      ap₂ (λ (a b : Bool). not a && b) (ap f same ∙ out) fan_in in
      or_left (list_any (λ (e : ℕ × Gate). not (f e.0) && is_fan_in v e.1) (enumerate_from (first_gate g) g.gates) || list_any (λ (latch : Latch). reads v latch.next) g.latches) (list_any (reads v) (property_literals props))
      (or_left (list_any (λ (e : ℕ × Gate). not (f e.0) && is_fan_in v e.1) (enumerate_from (first_gate g) g.gates)) (list_any (λ (latch : Latch). reads v latch.next) g.latches)
      (any-here (λ (e : ℕ × Gate). not (f e.0) && is_fan_in v e.1) (first_gate g) g.gates (w - first_gate g) some.0 place.there here)))
]
  where
    no : (o : Option Gate) → o ≡ None → gate_reads v o ≡ true → ⊥
    no None e r = absurd (cc)
    no (Some gate) e r = none-some gate (sym e)
