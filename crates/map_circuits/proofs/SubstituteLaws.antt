-- The function of what stands for a latch has the value of that in the state of the functions.
use Rattle.std.proofs.Common.{inl, inr, ℕ, ◌+◌, ◌-◌, ◌*◌, ◌<◌, ◌≤◌, ◌≡◌, nat_eq, Bool, true, false, List, length, get_or, arith, ap, sym, ◌∙◌}
use Rattle.std.proofs.lemmas.Bool.{cases_Bool, eqb-true, cond-true, cond-false}
use Rattle.std.proofs.lemmas.List.{get_or-map}
use Rattle.aig_graph.specs.Graph.{Graph, IsGraph, first_latch, variable}
use Rattle.aig_graph.specs.Value.{signed, value_within}
use Rattle.aig_graph.proofs.KindLaws.{element}
use Rattle.aig_graph.proofs.SignLaws.{value_signed, value_signed_as}
use Rattle.state_maps.specs.States.{State}
use Rattle.state_maps.proofs.WithinLaws.{within_laws}
use Rattle.map_circuits.specs.Constraining.{IsSubstitute, substitute_function}
use Rattle.map_circuits.specs.Following.{entry_of, literal_at, state_of}

-- d's latches hold what g's functions are in a state of g
module _ (d : Graph) (valid : IsGraph d) (functions : List ℕ) (many : length functions ≡ length d.latches) (g : Graph) (graph : IsGraph g) (s : State) where
  abbrev first : ℕ
  first = first_latch d

  abbrev here : ℕ → Bool
  here = value_within g s (λ i. false)

  abbrev there : ℕ → Bool
  there = value_within d (λ i. false) (state_of g functions s)

  -- a latch holds what its function is
  pub function-value : (j : ℕ) → j < length functions → here (get_or functions j 0) ≡ state_of g functions s j
  function-value j less = sym (get_or-map here functions j 0 false less)

  entry-value : (v : ℕ) → first ≤ v → v - first < length functions → here (entry_of first functions v) ≡ there (2 * v)
  entry-value v from less =
      let latch = element d.latches (v - first) (omega (arith, less, many)) in
      let place : 2 * v ≡ 2 * (first + (v - first)) = omega (arith, from) in
      function-value (v - first) less ∙ sym ((within_laws d valid (λ i. false) (state_of g functions s)).latch (v - first) latch.0 latch.1) ∙ sym (ap there place)

  -- the function of what stands for a latch has its value
  pub substitute-value : (lit : ℕ) → IsSubstitute first functions lit → here (substitute_function first functions lit) ≡ there lit
  substitute-value lit substitute =
      let one = within_laws g graph s (λ i. false) in
      let two = within_laws d valid (λ i. false) (state_of g functions s) in
      elim (cases_Bool (nat_eq (variable lit) 0)) [
        | inl constant ↦ (
            let same : substitute_function first functions lit ≡ lit = cond-true {A = ℕ} (nat_eq (variable lit) 0) lit (literal_at first functions lit) constant in
            let place : 2 * variable lit ≡ 0 = omega (arith, eqb-true (variable lit) 0 constant) in
            ap here same ∙ value_signed here one.negation lit ∙ ap (signed lit) (ap here place ∙ one.constant ∙ sym (ap there place ∙ two.constant)) ∙ sym (value_signed there two.negation lit))
        | inr apart ↦ (
            let same : substitute_function first functions lit ≡ literal_at first functions lit = cond-false {A = ℕ} (nat_eq (variable lit) 0) lit (literal_at first functions lit) apart in
            let entry : here (entry_of first functions (variable lit)) ≡ there (2 * variable lit) = elim substitute [
              | inl none ↦ (let clash : nat_eq (variable lit) 0 ≡ true = ap (λ (n : ℕ). nat_eq n 0) none in absurd (cc))
              | inr covered ↦ entry-value (variable lit) covered.0 covered.1
            ] in
            ap here same ∙ value_signed_as here one.negation lit (entry_of first functions (variable lit)) ∙ ap (signed lit) entry ∙ sym (value_signed there two.negation lit))
      ]
