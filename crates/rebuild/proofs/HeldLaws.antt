-- Where the held latches of a circuit stand after a move.
use Rattle.std.proofs.Common.{ℕ, ◌+◌, ◌-◌, ◌<◌, ◌≡◌, ◌||◌, not, inl, inr, length, get_or, true, Some, is_some, arith, ap, ◌∙◌}
use Rattle.std.specs.List.{All}
use Rattle.std.specs.List.Sorted.{IsStrictlyIncreasing}
use Rattle.std.proofs.lemmas.Bool.{and_from, cases_Bool, or_left, or_right}
use Rattle.std.proofs.lemmas.List.Elements.{All-map}
use Rattle.aig_graph.proofs.KindLaws.{element, latch_at-first_latch}
use Rattle.aig_graph.proofs.PositionLaws.{has-own}
use Rattle.aig_graph.specs.Border.{in_border, is_gate_in, is_read}
use Rattle.aig_graph.specs.Closed.{is_held}
use Rattle.aig_graph.specs.Graph.{Graph, first_latch, is_free, is_free_latch, is_known, latch_at, variables_end}
use Rattle.aig_graph.specs.Move.{Move}
use Rattle.rebuild.proofs.MovedLaws.{length-moved_latches}
use Rattle.rebuild.proofs.NameLaws.{ranks-rising}
use Rattle.rebuild.specs.Moved.{is_latched, moved_graph, moved_held, moved_position}
use Rattle.aig_graph.proofs.PlacesLaws.{count-lt}
use Rattle.aig_graph.specs.Marking.{has}

module _ (m : Move) where
  abbrev g : Graph
  g = m.circuit.aig

  -- a held latch stays
  pub held-stays : (j : ℕ) → j < length m.circuit.aig.latches → has m.held j ≡ true → is_latched m (first_latch m.circuit.aig + j) ≡ true
  unfolding is_latched in_border
  held-stays j low here =
      let v : ℕ = first_latch g + j in
      let found = element g.latches j low in
      let at : latch_at g v ≡ Some found.0 = latch_at-first_latch g j ∙ found.1 in
      elim (cases_Bool (is_free found.0)) [
        | inl free ↦ or_left (is_free_latch (latch_at g v)) (in_border m v) (ap is_free_latch at ∙ free)
        | inr known ↦ (
            let place : v - first_latch g ≡ j = omega arith in
            let by_keep : is_held g m.held v ≡ true = and_from (has m.held (v - first_latch g)) (is_some (latch_at g v)) (ap (has m.held) place ∙ here) (ap is_some at) in
            or_right (is_free_latch (latch_at g v)) (in_border m v)
            (and_from (is_known (latch_at g v) || is_gate_in g m.set v) (is_held g m.held v || is_read m.circuit m.set v)
            (or_left (is_known (latch_at g v)) (is_gate_in g m.set v) (ap is_known at ∙ ap not known)) (or_left (is_held g m.held v) (is_read m.circuit m.set v) by_keep)))
      ]

  module _ (in_range : All (λ j. j < length m.circuit.aig.latches) m.held) where
    -- all held latches stay
    pub all-stay : All (λ j. is_latched m (first_latch m.circuit.aig + j) ≡ true) m.held
    all-stay k d h = held-stays (get_or m.held k d) (in_range k d h) (has-own m.held k d h)

    -- after a move the held latches are in range
    pub moved_held-below : All (λ j. j < length (moved_graph m).latches) (moved_held m)
    moved_held-below = All-map (λ j. j < length (moved_graph m).latches) (moved_position m) m.held (λ k d h.
        let within : get_or m.held k d < length g.latches = in_range k d h in
        omega (arith, count-lt (is_latched m) (first_latch g + get_or m.held k d) (variables_end g) (omega arith) (all-stay k d h), length-moved_latches m))

    -- after a move the positions of held latches rise, as before it
    pub moved_held-rising : IsStrictlyIncreasing m.held → IsStrictlyIncreasing (moved_held m)
    moved_held-rising rising = ranks-rising (is_latched m) (first_latch g) m.held rising all-stay
