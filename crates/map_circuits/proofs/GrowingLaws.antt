-- Graphs that grow keep the values of their literals.
use Rattle.std.proofs.Common.{◌⊎◌, inl, inr, ℕ, ◌+◌, ◌*◌, ◌/◌, ◌%◌, ◌<◌, ◌≡◌, ◌≢◌, suc, zero, Bool, true, false, not, ◌&&◌, [], ◌∷◌, length, refl, arith, ap, sym, ◌∙◌, subst}
use Rattle.std.proofs.lemmas.List.{length_push}
use Rattle.aig_graph.specs.declared.graph.Gate.{Gate}
use Rattle.aig_graph.specs.Building.{gate_of, with_gate}
use Rattle.aig_graph.specs.Graph.{Graph, IsGraph, IsGateAt, IsLiteralOf, variable, first_gate, first_latch, gate_at, variables_end}
use Rattle.aig_graph.specs.Value.{signed, value_within}
use Rattle.aig_graph.proofs.FoldingLaws.{gate_at-first_gate, gate_at-is}
use Rattle.aig_graph.proofs.KindLaws.{is_constant, is_gate, is_input, is_latch, kind_of}
use Rattle.aig_graph.proofs.SignLaws.{value-gate_of, value_signed}
use Rattle.aig_graph.proofs.PlacesLaws.{slice_get-append_left, slice_get-append_right}
use Rattle.state_maps.specs.States.{Digits, State}
use Rattle.state_maps.specs.RetimedStates.{agrees}
use Rattle.state_maps.proofs.WithinLaws.{within_laws}
use Rattle.map_circuits.specs.Growing.{Extends, IsConjunction, IsEquality}

-- a graph with no gates more counts as grown
pub extends-itself : (g : Graph) → IsGraph g → Extends g g
extends-itself g valid = record { graph = valid; inputs = refl; latches = refl; literals = λ lit h. h; values = λ x s lit h. refl }

-- a graph that grows twice has grown from the first to the last
pub extends-transitive : (g h i : Graph) → Extends g h → Extends h i → Extends g i
extends-transitive g h i p q = record {
  graph = q.graph;
  inputs = q.inputs ∙ p.inputs;
  latches = q.latches ∙ p.latches;
  literals = λ lit within. q.literals lit (p.literals lit within);
  values = λ x s lit within. q.values x s lit (p.literals lit within) ∙ p.values x s lit within;
}

-- two literals whose variables have one value are equal
signed-same : (g h : Graph) → IsGraph g → IsGraph h → (x : Digits) (s : State) (lit : ℕ) → value_within h x s (2 * variable lit) ≡ value_within g x s (2 * variable lit) → value_within h x s lit ≡ value_within g x s lit
signed-same g h one two x s lit same =
    value_signed (value_within h x s) (within_laws h two x s).negation lit ∙ ap (signed lit) same ∙ sym (value_signed (value_within g x s) (within_laws g one x s).negation lit)

module _ (g : Graph) (valid : IsGraph g) (gate : Gate) (grown : IsGraph (with_gate g gate)) (x : Digits) (s : State) where
  abbrev before : ℕ → Bool
  before = value_within g x s

  abbrev after : ℕ → Bool
  after = value_within (with_gate g gate) x s

  variable-value : (n v : ℕ) → v < n → v < variables_end g → after (2 * v) ≡ before (2 * v)
  variable-value zero v h within = absurd (omega arith)
  variable-value (suc n) v h within =
      let old = within_laws g valid x s in
      let new = within_laws (with_gate g gate) grown x s in
      elim (kind_of g v within) [
        | is_constant e ↦ (let at : 2 * v ≡ 0 = omega (arith, e) in ap after at ∙ new.constant ∙ sym old.constant ∙ sym (ap before at))
        | is_input i less e ↦ (let at : 2 * v ≡ 2 * (1 + i) = omega (arith, e) in ap after at ∙ new.input i less ∙ sym (old.input i less) ∙ sym (ap before at))
        | is_latch j latch there e ↦ (let at : 2 * v ≡ 2 * (first_latch g + j) = omega (arith, e) in ap after at ∙ new.latch j latch there ∙ sym (old.latch j latch there) ∙ sym (ap before at))
        | is_gate k own there e ↦ (
            let here : IsGateAt v own = gate_at-is g valid v own (ap (gate_at g) e ∙ gate_at-first_gate g k ∙ there) in
            let at : 2 * v ≡ 2 * (first_gate g + k) = omega (arith, e) in
            let first = signed-same g (with_gate g gate) valid grown x s own.rhs0 (variable-value n (variable own.rhs0) (omega (arith, here.below)) (omega (arith, here.below))) in
            let second = signed-same g (with_gate g gate) valid grown x s own.rhs1 (variable-value n (variable own.rhs1) (omega (arith, here.below, here.ordered)) (omega (arith, here.below, here.ordered))) in
            ap after at
            ∙ new.gate k own (slice_get-append_left g.gates (gate ∷ []) k own there)
            ∙ ap (λ (b : Bool). b && after own.rhs1) first ∙ ap (λ (b : Bool). before own.rhs0 && b) second
            ∙ sym (old.gate k own there) ∙ sym (ap before at))
      ]

  literal-value : (lit : ℕ) → IsLiteralOf g lit → after lit ≡ before lit
  literal-value lit within = signed-same g (with_gate g gate) valid grown x s lit (variable-value (suc (variable lit)) (variable lit) (omega arith) within)

  gate-value : after (2 * variables_end g) ≡ (after gate.rhs0 && after gate.rhs1)
  gate-value =
      let at : 2 * variables_end g ≡ 2 * (first_gate g + (length g.gates + 0)) = omega arith in
      ap after at ∙ (within_laws (with_gate g gate) grown x s).gate (length g.gates + 0) gate (slice_get-append_right g.gates (gate ∷ []) 0)

-- one more gate
pub extends-gate : (g h : Graph) (a b : ℕ) → IsGraph g → h ≡ with_gate g (gate_of a b) → IsGraph (with_gate g (gate_of a b)) → Extends g h
extends-gate g h a b valid same grown =
    let P : Graph → Type 0 = λ i. Extends g i in
    subst P (sym same) (record {
      graph = grown;
      inputs = refl;
      latches = refl;
      literals = λ lit within. omega (arith, within, length_push g.gates (gate_of a b));
      values = λ x s lit within. literal-value g valid (gate_of a b) grown x s lit within;
    })

-- the literal of a new gate of two literals is their conjunction
pub conjunction-gate : (g h : Graph) (a b lit : ℕ) → IsGraph g → h ≡ with_gate g (gate_of a b) → IsGraph (with_gate g (gate_of a b)) → lit ≡ 2 * variables_end g → IsConjunction h a b lit
conjunction-gate g h a b lit valid same grown at =
    let P : Graph → Type 0 = λ i. IsConjunction i a b lit in
    subst P (sym same) (record {
      within = omega (arith, at, length_push g.gates (gate_of a b));
      is = λ x s. ap (value_within (with_gate g (gate_of a b)) x s) at ∙ gate-value g valid (gate_of a b) grown x s
          ∙ value-gate_of (value_within (with_gate g (gate_of a b)) x s) a b;
    })

-- the literal of this variable with the other sign
pub negated-value : (g : Graph) → IsGraph g → (x : Digits) (s : State) (lit other : ℕ) → other / 2 ≡ lit / 2 → other % 2 ≢ lit % 2 → value_within g x s other ≡ not (value_within g x s lit)
negated-value g valid x s lit other same sign =
    let laws = within_laws g valid x s in
    elim (parity (lit % 2) (omega arith)) [
      | inl even ↦ (
          let this : lit ≡ 2 * variable lit = omega (arith, even) in
          let that : other ≡ 2 * variable lit + 1 = omega (arith, even, same, odd-where (other % 2) (λ e. sign (e ∙ sym even)) (omega arith)) in
          ap (value_within g x s) that ∙ laws.negation (variable lit) ∙ ap not (sym (ap (value_within g x s) this)))
      | inr odd ↦ (
          let this : lit ≡ 2 * variable lit + 1 = omega (arith, odd) in
          let that : other ≡ 2 * variable lit = omega (arith, odd, same, even-where (other % 2) (λ e. sign (e ∙ sym odd)) (omega arith)) in
          ap (value_within g x s) that ∙ sym (twice (value_within g x s (2 * variable lit))) ∙ ap not (sym (ap (value_within g x s) this ∙ laws.negation (variable lit))))
    ]
  where
    twice : (b : Bool) → not (not b) ≡ b
    twice true = refl
    twice false = refl

    parity : (n : ℕ) → n < 2 → (n ≡ 0) ⊎ (n ≡ 1)
    parity zero h = inl refl
    parity (suc zero) h = inr refl
    parity (suc (suc n)) h = absurd (omega arith)

    odd-where : (n : ℕ) → (n ≡ 0 → ⊥) → n < 2 → n ≡ 1
    odd-where zero fails h = absurd (fails refl)
    odd-where (suc zero) fails h = refl
    odd-where (suc (suc n)) fails h = absurd (omega arith)

    even-where : (n : ℕ) → (n ≡ 1 → ⊥) → n < 2 → n ≡ 0
    even-where zero fails h = refl
    even-where (suc zero) fails h = absurd (fails refl)
    even-where (suc (suc n)) fails h = absurd (omega arith)

-- the conjunction of what isn't one without the other is that both agree
pub agrees-gates : (a b : Bool) → (not (not a && b) && not (a && not b)) ≡ agrees a b
agrees-gates true true = refl
agrees-gates true false = refl
agrees-gates false true = refl
agrees-gates false false = refl

-- three gates that say whether two literals agree
pub compared : (g h i k : Graph) (a b na nb above nabove below nbelow lit : ℕ) → IsGraph g → IsLiteralOf g a → IsLiteralOf g b
    → nb / 2 ≡ b / 2 → nb % 2 ≢ b % 2 → na / 2 ≡ a / 2 → na % 2 ≢ a % 2 → nabove / 2 ≡ above / 2 → nabove % 2 ≢ above % 2 → nbelow / 2 ≡ below / 2 → nbelow % 2 ≢ below % 2
    → Extends g h → IsConjunction h a nb above → Extends h i → IsConjunction i na b below → Extends i k → IsConjunction k nbelow nabove lit
    → IsEquality k a b lit
compared g h i k a b na nb above nabove below nbelow lit valid here there nb_var nb_sign na_var na_sign above_var above_sign below_var below_sign one first two second three third =
    let within_a : IsLiteralOf i a = two.literals a (one.literals a here) in
    let within_b : IsLiteralOf i b = two.literals b (one.literals b there) in
    record {
      within = third.within;
      is = λ x s.
          let left : Bool = value_within k x s a in
          let right : Bool = value_within k x s b in
          let v : ℕ → Bool = value_within k x s in
          let not_b : v nb ≡ not right = negated-value k three.graph x s b nb nb_var nb_sign in
          let not_a : v na ≡ not left = negated-value k three.graph x s a na na_var na_sign in
          let in_na : IsLiteralOf i na = omega (arith, within_a, na_var) in
          let in_nb : IsLiteralOf h nb = omega (arith, one.literals b there, nb_var) in
          let is_below : v below ≡ (not left && right) =
          three.values x s below second.within ∙ second.is x s
          ∙ ap (λ (t : Bool). t && value_within i x s b) (sym (three.values x s na in_na) ∙ not_a) ∙ ap (λ (t : Bool). not left && t) (sym (three.values x s b within_b)) in
          let same_a : value_within h x s a ≡ left = sym (two.values x s a (one.literals a here)) ∙ sym (three.values x s a within_a) in
          let same_nb : value_within h x s nb ≡ not right = sym (two.values x s nb in_nb) ∙ sym (three.values x s nb (two.literals nb in_nb)) ∙ not_b in
          let is_above : v above ≡ (left && not right) =
          three.values x s above (two.literals above first.within) ∙ two.values x s above first.within ∙ first.is x s
          ∙ ap (λ (t : Bool). t && value_within h x s nb) same_a ∙ ap (λ (t : Bool). left && t) same_nb in
          third.is x s
          ∙ ap (λ (t : Bool). t && v nabove) (negated-value k three.graph x s below nbelow below_var below_sign ∙ ap not is_below)
          ∙ ap (λ (t : Bool). not (not left && right) && t) (negated-value k three.graph x s above nabove above_var above_sign ∙ ap not is_above)
          ∙ agrees-gates left right;
    }

-- a literal that is equal to 1, and to 0
pub equals-one : (g : Graph) → IsGraph g → (a b : ℕ) → IsLiteralOf g a → b ≡ 1 → IsEquality g a b a
equals-one g valid a b within one = record {
  within = within;
  is = λ x s. sym (ap (agrees (value_within g x s a)) (ap (value_within g x s) one ∙ (within_laws g valid x s).negation 0 ∙ ap not (within_laws g valid x s).constant) ∙ agrees-true (value_within g x s a));
}
  where
    agrees-true : (t : Bool) → agrees t true ≡ t
    agrees-true true = refl
    agrees-true false = refl

-- the negation of a literal says that the literal is equal to 0
pub equals-zero : (g : Graph) → IsGraph g → (a na b : ℕ) → IsLiteralOf g a → na / 2 ≡ a / 2 → na % 2 ≢ a % 2 → b ≡ 0 → IsEquality g a b na
equals-zero g valid a na b within same sign none = record {
  within = omega (arith, within, same);
  is = λ x s. negated-value g valid x s a na same sign
      ∙ sym (ap (agrees (value_within g x s a)) (ap (value_within g x s) none ∙ (within_laws g valid x s).constant) ∙ agrees-false (value_within g x s a));
}
  where
    agrees-false : (t : Bool) → agrees t false ≡ not t
    agrees-false true = refl
    agrees-false false = refl
