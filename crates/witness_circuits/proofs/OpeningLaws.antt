-- A state in which the known latches hold their resets is a first state.
use Rattle.std.proofs.Common.{ℕ, ◌+◌, ◌-◌, ◌<◌, ◌≤◌, ◌≡◌, inl, inr, Bool, true, false, length, get_or, slice_get, Some, refl, arith, ap, sym, ◌∙◌}
use Rattle.std.proofs.lemmas.Bool.{cases_lt}
use Rattle.std.proofs.lemmas.Option.{get_or_from_slice_get, slice_get_past, slice_get_within}
use Rattle.aig_graph.specs.Counting.{places, count_below}
use Rattle.aig_graph.proofs.PlacesLaws.{at_rank}
use Rattle.aig_graph.specs.declared.graph.Latch.{Latch}
use Rattle.aig_graph.specs.declared.graph.Reset.{Reset}
use Rattle.aig_graph.specs.declared.graph.Reset.TheVariants.{Zero, One, Free}
use Rattle.aig_graph.specs.Graph.{Graph, first_latch, free_before, is_free, is_free_latch, variables_end}
use Rattle.aig_graph.specs.Value.{Choice, opening, opening_at}
use Rattle.aig_graph.proofs.FreeLaws.{free-count, is_free_at, free-where}
use Rattle.aig_graph.proofs.KindLaws.{element, latch_at-first_latch}
use Rattle.state_maps.specs.States.{State, opening_state}
use Rattle.aig_graph.proofs.StreamLaws.{funext}

-- what is held at step 0 is what the reset leaves
pub opening-twice : (r : Reset) (b : Bool) → opening r (opening r b) ≡ opening r b
opening-twice Zero b = refl
opening-twice One b = refl
opening-twice Free b = refl

-- a known latch holds one value, whatever was chosen
pub opening-known : (r : Reset) (a b : Bool) → (r ≡ Free → a ≡ b) → opening r b ≡ b → opening r a ≡ b
opening-known Zero a b same holds = holds
opening-known One a b same holds = holds
opening-known Free a b same holds = same refl

module _ (g : Graph) (t : State) where
  -- what the free latch at this place holds
  pub held_choice : Choice
  held_choice p = t (get_or (places (is_free_at g) (variables_end g)) p 0 - first_latch g)

  choice-at : (j : ℕ) (latch : Latch) → slice_get g.latches j ≡ Some latch → is_free latch ≡ true → held_choice (free_before g j) ≡ t j
  unfolding held_choice
  choice-at j latch there free =
      let short : j < length g.latches = slice_get_within g.latches j latch there in
      let passes : is_free_at g (first_latch g + j) ≡ true = ap is_free_latch (latch_at-first_latch g j ∙ there) ∙ free in
      let rank = at_rank (is_free_at g) (variables_end g) (first_latch g + j) (omega (arith, short)) passes in
      let read : get_or (places (is_free_at g) (variables_end g)) (count_below (is_free_at g) (first_latch g + j)) 0 ≡ first_latch g + j =
      get_or_from_slice_get (places (is_free_at g) (variables_end g)) (count_below (is_free_at g) (first_latch g + j)) (first_latch g + j) 0 rank in
      let counted : count_below (is_free_at g) (first_latch g + j) ≡ free_before g j = free-count g j (omega (arith, short)) in
      let place : first_latch g + j - first_latch g ≡ j = omega arith in
      ap held_choice (sym counted) ∙ ap (λ (v : ℕ). t (v - first_latch g)) read ∙ ap t place

  -- a state that holds the resets, and nothing past the latches
  pub opened : ((j : ℕ) (latch : Latch) → slice_get g.latches j ≡ Some latch → opening latch.reset (t j) ≡ t j) → ((j : ℕ) → length g.latches ≤ j → t j ≡ false)
      → opening_state g held_choice ≡ t
  opened holds past = funext (opening_state g held_choice) t each
    where
      each : (j : ℕ) → opening_at g held_choice j (slice_get g.latches j) ≡ t j
      each j = elim (cases_lt j (length g.latches)) [
        | inl short ↦ (
            let there = element g.latches j short in
            ap (opening_at g held_choice j) there.1
            ∙ opening-known there.0.reset (held_choice (free_before g j)) (t j) (λ e. choice-at j there.0 there.1 (free-where there.0 e)) (holds j there.0 there.1))
        | inr beyond ↦ ap (opening_at g held_choice j) (slice_get_past g.latches j beyond) ∙ sym (past j beyond)
      ]
