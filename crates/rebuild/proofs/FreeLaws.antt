-- How many latches a moved graph has, and which of them are free.
use Rattle.std.proofs.Common.{ℕ, ◌+◌, ◌-◌, ◌≤◌, ◌≡◌, inl, inr, List, length, map, count_by, Bool, true, false, ◌&&◌, ◌||◌, not, Option, Some, None, is_some, refl, arith, ap, sym, ◌∙◌}
use Rattle.std.proofs.lemmas.Bool.{cases_Bool, and_from, and_left, and_right, or_from, not_from_true, le-leb}
use Rattle.std.proofs.lemmas.List.{take-map}
use Rattle.aig_graph.proofs.FreeLaws.{free-count, free-count_all, is_free_at}
use Rattle.aig_graph.proofs.KindLaws.{LatchPlace, latch_place}
use Rattle.aig_graph.proofs.FoldingLaws.{gate_at-before}
use Rattle.aig_graph.specs.Border.{border_size, in_border, is_gate_in, is_read}
use Rattle.aig_graph.specs.Closed.{IsClosedSet, is_held}
use Rattle.aig_graph.specs.Graph.{first_gate, first_latch, free_before, free_latches, is_free, is_free_latch, is_known, known_latches, latch_at, variables_end}
use Rattle.aig_graph.specs.Move.{Move}
use Rattle.aig_graph.specs.Value.{reset_to}
use Rattle.aig_graph.specs.declared.graph.Gate.{Gate}
use Rattle.aig_graph.specs.declared.graph.Latch.{Latch}
use Rattle.aig_graph.specs.declared.literal.TheConstants.{MAX_VARIABLES}
use Rattle.rebuild.proofs.BorderLaws.{closed-passable, latched_where_free, no-member-before, not_outside_before}
use Rattle.rebuild.proofs.MovedLaws.{length-moved_gates, length-moved_latches, moved-inputs}
use Rattle.rebuild.specs.Moved.{is_latched, is_outside, latch_for, latch_from, moved_graph}
use Rattle.rebuild.specs.Starting.{start_value}
use Rattle.aig_graph.proofs.CountingLaws.{count-or, count-split, count_below-same, count_by-places}
use Rattle.aig_graph.proofs.PlacesLaws.{take-places}
use Rattle.aig_graph.specs.Counting.{count_below, places}
use Rattle.aig_graph.specs.Marking.{has}

module _ (m : Move) (set : IsClosedSet m.circuit.aig m.held m.set) where
  -- a free latch isn't in the border
  free-apart : (v : ℕ) → is_free_at m.circuit.aig v ≡ true → in_border m v ≡ false
  unfolding in_border
  free-apart v free = go (latch_at m.circuit.aig v) refl
    where
      go : (o : Option Latch) → latch_at m.circuit.aig v ≡ o → in_border m v ≡ false
      go None e = let clash : false ≡ true = ap is_free_latch (sym e) ∙ free in absurd (cc)
      go (Some latch) e =
          let place : LatchPlace m.circuit.aig v latch = latch_place m.circuit.aig v latch e in
          let freed : is_free latch ≡ true = ap is_free_latch (sym e) ∙ free in
          let unknown : is_known (latch_at m.circuit.aig v) ≡ false = ap is_known e ∙ not_from_true (is_free latch) freed in
          let no_gate : is_gate_in m.circuit.aig m.set v ≡ false = ap (λ (o : Option Gate). is_some o && has m.set v) (gate_at-before m.circuit.aig v (omega arith)) in
          and_left (is_known (latch_at m.circuit.aig v) || is_gate_in m.circuit.aig m.set v) (is_held m.circuit.aig m.held v || is_read m.circuit m.set v)
          (or_from (is_known (latch_at m.circuit.aig v)) (is_gate_in m.circuit.aig m.set v) unknown no_gate)

  -- the moved circuit has a latch for each free latch and each variable of the border
  pub count-is_latched : count_below (is_latched m) (variables_end m.circuit.aig) ≡ free_latches m.circuit.aig + border_size m
  unfolding is_latched border_size
  count-is_latched =
      let both : count_below (is_latched m) (variables_end m.circuit.aig) ≡ count_below (is_free_at m.circuit.aig) (variables_end m.circuit.aig) + count_below (in_border m) (variables_end m.circuit.aig) =
      count-or (is_free_at m.circuit.aig) (in_border m) (is_latched m) (variables_end m.circuit.aig) (λ v h. refl) (λ v h free. free-apart v free) in
      both ∙ ap (λ (n : ℕ). n + count_below (in_border m) (variables_end m.circuit.aig)) (free-count_all m.circuit.aig)

  -- the members and the gates outside are all gates
  pub count-gates : count_below (has m.set) (variables_end m.circuit.aig) + count_below (is_outside m) (variables_end m.circuit.aig) ≡ length m.circuit.aig.gates
  unfolding is_outside
  count-gates =
      let split : count_below (has m.set) (variables_end m.circuit.aig) + count_below (is_outside m) (variables_end m.circuit.aig) ≡ variables_end m.circuit.aig - first_gate m.circuit.aig =
      count-split (has m.set) (is_outside m) (first_gate m.circuit.aig) (variables_end m.circuit.aig) (omega arith)
      (λ v h. (no-member-before m (closed-passable m set.closed) v h, not_outside_before m v h))
      (λ v h. ap (λ (b : Bool). b && not (has m.set v)) (le-leb (first_gate m.circuit.aig) v h)) in
      omega arith

  -- the number of gates is unchanged
  pub moved-gates : length (moved_graph m).gates ≡ length m.circuit.aig.gates
  moved-gates = omega (arith, length-moved_gates m set, count-gates)

  -- if the moved circuit's size is within the limit, so is its number of variables
  pub moved-room : 1 + m.circuit.aig.inputs + free_latches m.circuit.aig + border_size m + length m.circuit.aig.gates ≤ MAX_VARIABLES → variables_end (moved_graph m) ≤ MAX_VARIABLES
  moved-room room = omega (arith, moved-inputs m, moved-gates, length-moved_latches m, count-is_latched)

  -- what is free after the move was so before
  same_free : (w : ℕ) → (is_latched m w && is_free (latch_for m w)) ≡ is_free_at m.circuit.aig w
  same_free w = go (latch_at m.circuit.aig w) refl
    where
      new_is_known : (b : Bool) (next : ℕ) → is_free (record { next = next; reset = reset_to b }) ≡ false
      new_is_known true next = refl
      new_is_known false next = refl

      go : (o : Option Latch) → latch_at m.circuit.aig w ≡ o → (is_latched m w && is_free (latch_for m w)) ≡ is_free_at m.circuit.aig w
      go None e =
          and_right (is_latched m w) (is_free (latch_for m w)) (ap (λ (o : Option Latch). is_free (latch_from m w o)) e ∙ new_is_known (start_value m.circuit.aig w) (latch_from m w None).next)
          ∙ sym (ap is_free_latch e)
      go (Some latch) e =
          let same : is_free (latch_for m w) ≡ is_free latch = ap (λ (o : Option Latch). is_free (latch_from m w o)) e in
          elim (cases_Bool (is_free latch)) [
            | inl free ↦ and_from (is_latched m w) (is_free (latch_for m w)) (latched_where_free m w latch e free) (same ∙ free) ∙ sym (ap is_free_latch e ∙ free)
            | inr known ↦ and_right (is_latched m w) (is_free (latch_for m w)) (same ∙ known) ∙ sym (ap is_free_latch e ∙ known)
          ]

  moved-free_before : (v : ℕ) → v ≤ variables_end m.circuit.aig → free_before (moved_graph m) (count_below (is_latched m) v) ≡ count_below (is_free_at m.circuit.aig) v
  unfolding moved_graph
  moved-free_before v h =
      ap (count_by is_free) (take-map (latch_for m) (count_below (is_latched m) v) (places (is_latched m) (variables_end m.circuit.aig)))
      ∙ ap (λ (xs : List ℕ). count_by is_free (map (latch_for m) xs)) (take-places (is_latched m) (variables_end m.circuit.aig) v h)
      ∙ count_by-places is_free (latch_for m) (is_latched m) v
      ∙ count_below-same (λ w. is_latched m w && is_free (latch_for m w)) (is_free_at m.circuit.aig) v (λ w less. same_free w)

  -- as many free latches
  pub moved-free : free_latches (moved_graph m) ≡ free_latches m.circuit.aig
  moved-free =
      ap (free_before (moved_graph m)) (length-moved_latches m) ∙ moved-free_before (variables_end m.circuit.aig) (omega arith) ∙ free-count_all m.circuit.aig

  -- and each at its place among them
  pub moved-free_at : (j : ℕ) → j ≤ length m.circuit.aig.latches → free_before (moved_graph m) (count_below (is_latched m) (first_latch m.circuit.aig + j)) ≡ free_before m.circuit.aig j
  moved-free_at j h = moved-free_before (first_latch m.circuit.aig + j) (omega arith) ∙ free-count m.circuit.aig j h

  -- a latch of the moved circuit is known if and only if it is one of the border
  same_known : (w : ℕ) → (is_latched m w && not (is_free (latch_for m w))) ≡ in_border m w
  unfolding is_latched
  same_known w = go (latch_at m.circuit.aig w) refl
    where
      new_is_known : (b : Bool) (next : ℕ) → not (is_free (record { next = next; reset = reset_to b })) ≡ true
      new_is_known true next = refl
      new_is_known false next = refl

      and_true : (a b : Bool) → b ≡ true → (a && b) ≡ a
      and_true true b h = h
      and_true false b h = refl

      go : (o : Option Latch) → latch_at m.circuit.aig w ≡ o → ((is_free_latch (latch_at m.circuit.aig w) || in_border m w) && not (is_free (latch_for m w))) ≡ in_border m w
      go None e =
          let known : not (is_free (latch_for m w)) ≡ true = ap (λ (o : Option Latch). not (is_free (latch_from m w o))) e ∙ new_is_known (start_value m.circuit.aig w) (latch_from m w None).next in
          and_true (is_free_latch (latch_at m.circuit.aig w) || in_border m w) (not (is_free (latch_for m w))) known
          ∙ ap (λ (o : Option Latch). is_free_latch o || in_border m w) e
      go (Some latch) e =
          let same : is_free (latch_for m w) ≡ is_free latch = ap (λ (o : Option Latch). is_free (latch_from m w o)) e in
          elim (cases_Bool (is_free latch)) [
            | inl free ↦
                and_right (is_free_latch (latch_at m.circuit.aig w) || in_border m w) (not (is_free (latch_for m w))) (ap not (same ∙ free))
                ∙ sym (free-apart w (ap is_free_latch e ∙ free))
            | inr known ↦
                and_true (is_free_latch (latch_at m.circuit.aig w) || in_border m w) (not (is_free (latch_for m w))) (ap not (same ∙ known))
                ∙ ap (λ (b : Bool). b || in_border m w) (ap is_free_latch e ∙ known)
          ]

  -- as many known latches as the border has
  pub moved-known : known_latches (moved_graph m) ≡ border_size m
  unfolding moved_graph border_size
  moved-known =
      count_by-places (λ (latch : Latch). not (is_free latch)) (latch_for m) (is_latched m) (variables_end m.circuit.aig)
      ∙ count_below-same (λ w. is_latched m w && not (is_free (latch_for m w))) (in_border m) (variables_end m.circuit.aig) (λ w less. same_known w)
