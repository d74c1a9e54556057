-- A graph whose first latches are those of a circuit.
use Rattle.std.proofs.Common.{inl, inr, ℕ, suc, zero, ◌+◌, ◌<◌, ◌≤◌, ◌≡◌, Bool, true, false, length, take, count_by, get_or, slice_get, Some, refl, arith, ap, sym, ◌∙◌}
use Rattle.std.proofs.lemmas.Bool.{cases_Bool}
use Rattle.std.proofs.lemmas.List.Sums.{count_by_more_no, count_by_more_yes}
use Rattle.std.proofs.lemmas.Option.{get_or_from_slice_get}
use Rattle.aig_graph.specs.declared.graph.Latch.{Latch}
use Rattle.aig_graph.specs.declared.graph.Reset.{Reset}
use Rattle.aig_graph.specs.declared.graph.Reset.TheVariants.{Zero, One, Free}
use Rattle.aig_graph.specs.Circuits.{Netlist}
use Rattle.aig_graph.specs.Graph.{Graph, free_before, is_free}
use Rattle.aig_graph.specs.Value.{Choice, next_value, opening, opening_at, value_within}
use Rattle.aig_graph.proofs.KindLaws.{element}
use Rattle.state_maps.specs.States.{Digits, State, after_step, opening_state}
use Rattle.witness_circuits.specs.Lifting.{GoesAs, in_circuit}

-- a latch is free if its reset is
free-by_reset : (one two : Latch) → one.reset ≡ two.reset → is_free one ≡ is_free two
free-by_reset one two same = ap by_reset same
  where
    by_reset : Reset → Bool
    by_reset r = elim r [ Zero ↦ false | One ↦ false | Free ↦ true ]

-- the first latches of a graph have the resets and steps of a circuit's
abbrev pub GoFirst : Graph → Netlist → Type 0
GoFirst g c = (j : ℕ) (latch : Latch) → slice_get c.aig.latches j ≡ Some latch → GoesAs g j latch (in_circuit c)

-- a circuit's own latches do
pub goes-itself : (c : Netlist) → GoFirst c.aig c
goes-itself c j latch there = record { is = latch; there = there; reset = refl; next = λ z u. refl }

-- what is first in what is first is first
pub goes-through : (g : Graph) (b c : Netlist) → GoFirst g b → GoFirst b.aig c → GoFirst g c
goes-through g b c outer inner j latch there =
    let one : GoesAs b.aig j latch (in_circuit c) = inner j latch there in
    let two : GoesAs g j one.is (in_circuit b) = outer j one.is one.there in
    record { is = two.is; there = two.there; reset = two.reset ∙ one.reset; next = λ z u. two.next z u ∙ one.next z u }

module _ (g : Graph) (c : Netlist) (first : GoFirst g c) (long : length c.aig.latches ≤ length g.latches) where
  -- they go on as in the circuit
  pub first-steps : (z : Digits) (u : State) (j : ℕ) → j < length c.aig.latches → after_step g z u j ≡ after_step c.aig z u j
  first-steps z u j less =
      let latch = element c.aig.latches j less in
      let goes : GoesAs g j latch.0 (in_circuit c) = first j latch.0 latch.1 in
      ap (next_value (value_within g z u)) goes.there ∙ goes.next z u ∙ sym (ap (next_value (value_within c.aig z u)) latch.1)

  -- as many free latches come before one of the circuit's
  free-same : (j : ℕ) → j ≤ length c.aig.latches → free_before g j ≡ free_before c.aig j
  free-same zero h = refl
  free-same (suc j) h =
      let before : free_before g j ≡ free_before c.aig j = free-same j (omega (arith, h)) in
      let own = element c.aig.latches j (omega (arith, h)) in
      let goes : GoesAs g j own.0 (in_circuit c) = first j own.0 own.1 in
      let free : is_free goes.is ≡ is_free own.0 = free-by_reset goes.is own.0 goes.reset in
      let read_g : get_or g.latches j own.0 ≡ goes.is = get_or_from_slice_get g.latches j goes.is own.0 goes.there in
      let read_c : get_or c.aig.latches j own.0 ≡ own.0 = get_or_from_slice_get c.aig.latches j own.0 own.0 own.1 in
      let next : suc j ≡ j + 1 = omega arith in
      let room : j < length g.latches = omega (arith, h, long) in
      elim (cases_Bool (is_free own.0)) [
        | inl free_here ↦ (
            let g_more : count_by is_free (take (j + 1) g.latches) ≡ count_by is_free (take j g.latches) + 1 = count_by_more_yes is_free g.latches j own.0 room (ap is_free read_g ∙ free ∙ free_here) in
            let c_more : count_by is_free (take (j + 1) c.aig.latches) ≡ count_by is_free (take j c.aig.latches) + 1 = count_by_more_yes is_free c.aig.latches j own.0 (omega (arith, h)) (ap is_free read_c ∙ free_here) in
            ap (free_before g) next ∙ g_more ∙ ap (λ (x : ℕ). x + 1) before ∙ sym c_more ∙ sym (ap (free_before c.aig) next))
        | inr known_here ↦ (
            let g_more : count_by is_free (take (j + 1) g.latches) ≡ count_by is_free (take j g.latches) = count_by_more_no is_free g.latches j own.0 room (ap is_free read_g ∙ free ∙ known_here) in
            let c_more : count_by is_free (take (j + 1) c.aig.latches) ≡ count_by is_free (take j c.aig.latches) = count_by_more_no is_free c.aig.latches j own.0 (omega (arith, h)) (ap is_free read_c ∙ known_here) in
            ap (free_before g) next ∙ g_more ∙ before ∙ sym c_more ∙ sym (ap (free_before c.aig) next))
      ]

  -- they start as in the circuit
  pub first-opens : (f : Choice) (j : ℕ) → j < length c.aig.latches → opening_state g f j ≡ opening_state c.aig f j
  first-opens f j less =
      let own = element c.aig.latches j less in
      let goes : GoesAs g j own.0 (in_circuit c) = first j own.0 own.1 in
      ap (opening_at g f j) goes.there
      ∙ ap (λ (x : Reset). opening x (f (free_before g j))) goes.reset
      ∙ ap (λ (p : ℕ). opening own.0.reset (f p)) (free-same j (omega (arith, less)))
      ∙ sym (ap (opening_at c.aig f j) own.1)
