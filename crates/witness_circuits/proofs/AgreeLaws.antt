-- What a literal is rests on the inputs, the latches and the gates alone.
use Rattle.std.proofs.Common.{ℕ, suc, zero, ◌+◌, ◌*◌, ◌<◌, ◌≡◌, Bool, ◌&&◌, List, length, map, slice_get, Option, Some, None, refl, arith, ap, sym, ◌∙◌}
use Rattle.std.proofs.lemmas.Option.{slice_get_within}
use Rattle.aig_graph.specs.declared.graph.Gate.{Gate}
use Rattle.aig_graph.specs.declared.graph.Latch.{Latch}
use Rattle.aig_graph.specs.Circuits.{AreLiteralsOf}
use Rattle.aig_graph.specs.Graph.{Graph, IsGraph, IsGateAt, IsLiteralOf, variable, first_gate, first_latch, gate_at, variables_end}
use Rattle.aig_graph.specs.Value.{next_value, signed, value_within}
use Rattle.aig_graph.proofs.FoldingLaws.{gate_at-first_gate, gate_at-is}
use Rattle.aig_graph.proofs.KindLaws.{element, is_constant, is_gate, is_input, is_latch, kind_of}
use Rattle.aig_graph.proofs.SignLaws.{value_signed}
use Rattle.aig_graph.proofs.ListLaws.{map-same}
use Rattle.state_maps.specs.States.{Digits, State, after_step}
use Rattle.state_maps.proofs.WithinLaws.{within_laws}
use Rattle.aig_graph.proofs.StreamLaws.{funext}

-- equal numbers of inputs and latches, and equal gates
pub record AreAlike (g h : Graph) : Type 0 where
  -- there are as many inputs
  pub inputs : h.inputs ≡ g.inputs
  -- there are as many latches
  pub latches : length h.latches ≡ length g.latches
  -- the gates are equal
  pub gates : h.gates ≡ g.gates

-- each graph is alike to itself
pub alike-itself : (g : Graph) → AreAlike g g
alike-itself g = record { inputs = refl; latches = refl; gates = refl }

-- the inputs and latches have equal values
pub record HaveSame (g : Graph) (x y : Digits) (s t : State) : Type 0 where
  -- each input has equal values
  pub inputs : (i : ℕ) → i < g.inputs → y i ≡ x i
  -- each latch has equal values
  pub latches : (j : ℕ) → j < length g.latches → t j ≡ s j

module _ (g h : Graph) (one : IsGraph g) (two : IsGraph h) (alike : AreAlike g h) (x y : Digits) (s t : State) (same : HaveSame g x y s t) where
  abbrev before : ℕ → Bool
  before = value_within g x s

  abbrev after : ℕ → Bool
  after = value_within h y t

  signed-alike : (lit : ℕ) → after (2 * variable lit) ≡ before (2 * variable lit) → after lit ≡ before lit
  signed-alike lit e = value_signed after (within_laws h two y t).negation lit ∙ ap (signed lit) e ∙ sym (value_signed before (within_laws g one x s).negation lit)

  variable-alike : (n v : ℕ) → v < n → v < variables_end g → after (2 * v) ≡ before (2 * v)
  variable-alike zero v h1 within = absurd (omega arith)
  variable-alike (suc n) v h1 within =
      let old = within_laws g one x s in
      let new = within_laws h two y t in
      let inputs : h.inputs ≡ g.inputs = alike.inputs in
      let latches : length h.latches ≡ length g.latches = alike.latches in
      elim (kind_of g v within) [
        | is_constant e ↦ (let at : 2 * v ≡ 0 = omega (arith, e) in ap after at ∙ new.constant ∙ sym old.constant ∙ sym (ap before at))
        | is_input i less e ↦ (
            let at : 2 * v ≡ 2 * (1 + i) = omega (arith, e) in
            ap after at ∙ new.input i (omega (arith, less, inputs)) ∙ same.inputs i less ∙ sym (old.input i less) ∙ sym (ap before at))
        | is_latch j latch there e ↦ (
            let short : j < length g.latches = slice_get_within g.latches j latch there in
            let other = element h.latches j (omega (arith, short, latches)) in
            let at : 2 * v ≡ 2 * (first_latch g + j) = omega (arith, e) in
            let beside : 2 * v ≡ 2 * (first_latch h + j) = omega (arith, e, inputs) in
            ap after beside ∙ new.latch j other.0 other.1 ∙ same.latches j short ∙ sym (old.latch j latch there) ∙ sym (ap before at))
        | is_gate k own there e ↦ (
            let here : IsGateAt v own = gate_at-is g one v own (ap (gate_at g) e ∙ gate_at-first_gate g k ∙ there) in
            let at : 2 * v ≡ 2 * (first_gate g + k) = omega (arith, e) in
            let beside : 2 * v ≡ 2 * (first_gate h + k) = omega (arith, e, inputs, latches) in
            let first = signed-alike own.rhs0 (variable-alike n (variable own.rhs0) (omega (arith, here.below, h1)) (omega (arith, here.below, within))) in
            let second = signed-alike own.rhs1 (variable-alike n (variable own.rhs1) (omega (arith, here.below, here.ordered, h1)) (omega (arith, here.below, here.ordered, within))) in
            ap after beside
            ∙ new.gate k own (ap (λ (gates : List Gate). slice_get gates k) alike.gates ∙ there)
            ∙ ap (λ (b : Bool). b && after own.rhs1) first ∙ ap (λ (b : Bool). before own.rhs0 && b) second
            ∙ sym (old.gate k own there) ∙ sym (ap before at))
      ]

  -- a literal has equal values in both graphs
  pub literal-alike : (lit : ℕ) → IsLiteralOf g lit → after lit ≡ before lit
  literal-alike lit within = signed-alike lit (variable-alike (suc (variable lit)) (variable lit) (omega arith) within)

  -- the literals of a list have equal values in both graphs
  pub literals-alike : (lits : List ℕ) → AreLiteralsOf g lits → map after lits ≡ map before lits
  literals-alike lits within = map-same (λ lit. IsLiteralOf g lit) after before literal-alike lits within

-- so does the state a step later
pub after_step-alike : (g : Graph) → IsGraph g → (x y : Digits) (s t : State) → HaveSame g x y s t → after_step g y t ≡ after_step g x s
after_step-alike g valid x y s t same = funext (after_step g y t) (after_step g x s) (λ j. by_latch j (slice_get g.latches j) refl)
  where
    by_latch : (j : ℕ) (o : Option Latch) → slice_get g.latches j ≡ o → next_value (value_within g y t) o ≡ next_value (value_within g x s) o
    by_latch j None e = refl
    by_latch j (Some latch) e = literal-alike g g valid valid (alike-itself g) x y s t same latch.next (valid.latches j latch e)
