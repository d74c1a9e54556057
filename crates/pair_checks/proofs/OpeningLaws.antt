-- How the latches of two circuits begin, and what they read as then.
use Rattle.std.proofs.Common.{inl, inr, ℕ, ◌+◌, ◌-◌, ◌*◌, ◌%◌, ◌<◌, ◌≤◌, ◌≡◌, Bool, true, false, not, nat_lt, List, length, get_or, slice_get, refl, arith, ap, sym, ◌∙◌, length-append, if◌then◌else◌, zero-add}
use Rattle.std.proofs.lemmas.Bool.{cases_lt, cond-true, cond-false, lt-ltb, le-ltb}
use Rattle.std.proofs.lemmas.List.{get_or_append_left, get_or-append-add}
use Rattle.std.proofs.lemmas.List.FromFn.{get_or-range_with_len}
use Rattle.aig_graph.specs.declared.graph.Latch.{Latch}
use Rattle.aig_graph.specs.declared.graph.Reset.{Reset}
use Rattle.aig_graph.specs.declared.graph.Reset.TheVariants.{Zero, One, Free}
use Rattle.aig_graph.specs.Graph.{Graph, first_latch, free_before, free_latches, is_free, variable}
use Rattle.aig_graph.specs.Laws.{all_free}
use Rattle.aig_graph.specs.Streams.{chosen}
use Rattle.aig_graph.specs.Value.{Choice, opening, opening_at, opening_literal, signed}
use Rattle.aig_graph.proofs.KindLaws.{element}
use Rattle.aig_graph.proofs.SignLaws.{signed-even, signed-odd, value_signed_as}
use Rattle.aig_graph.proofs.TableLaws.{length-table, table-at}
use Rattle.map_checks.proofs.StartLaws.{free-less}
use Rattle.state_maps.specs.States.{State, opening_state}
use Rattle.pair_checks.specs.Openings.{BeginAlike, BeginsAs, constant, latch, choice_literal, opening_of, openings, openings_of}
use Rattle.pair_checks.specs.Pairs.{AgreesWith, held, read_value}

-- what a latch of the one circuit holds
pub held-first : (c : Graph) (s r : State) (j : ℕ) → j < length c.latches → held c s r j ≡ s j
held-first c s r j less = cond-true (nat_lt j (length c.latches)) (s j) (r (j - length c.latches)) (lt-ltb j (length c.latches) less)

-- what a latch of the other circuit holds
pub held-second : (c : Graph) (s r : State) (j : ℕ) → length c.latches ≤ j → held c s r j ≡ r (j - length c.latches)
held-second c s r j more = cond-false (nat_lt j (length c.latches)) (s j) (r (j - length c.latches)) (le-ltb j (length c.latches) more)

-- the value of a constant
pub read-constant : (c : Graph) (s r : State) (lit : ℕ) → variable lit ≡ 0 → read_value c s r lit ≡ signed lit false
read-constant c s r lit zero = ap (signed lit) (cond-true (nat_lt (variable lit) (first_latch c)) false (held c s r (variable lit - first_latch c)) (lt-ltb (variable lit) (first_latch c) (omega (arith, zero))))

-- the value of a latch
pub read-latch : (c : Graph) (s r : State) (lit : ℕ) → first_latch c ≤ variable lit → read_value c s r lit ≡ signed lit (held c s r (variable lit - first_latch c))
read-latch c s r lit from = ap (signed lit) (cond-false (nat_lt (variable lit) (first_latch c)) false (held c s r (variable lit - first_latch c)) (le-ltb (variable lit) (first_latch c) from))

module _ (c d : Graph) (kept : List ℕ) where
  -- there is an opening for each latch
  pub length-openings : length (openings c d kept) ≡ length c.latches + length d.latches
  length-openings =
      omega (
        arith,
        length-append (openings_of c (all_free c)) (openings_of d kept),
        length-table 0 (length c.latches) (λ j. opening_of (get_or (all_free c) (free_before c j) 0) (slice_get c.latches j)),
        length-table 0 (length d.latches) (λ j. opening_of (get_or kept (free_before d j) 0) (slice_get d.latches j)),
      )

  -- that of a latch of the one circuit
  pub opening-first : (j : ℕ) → j < length c.latches → get_or (openings c d kept) j 0 ≡ opening_of (get_or (all_free c) (free_before c j) 0) (slice_get c.latches j)
  opening-first j less =
      let f : ℕ → ℕ = λ i. opening_of (get_or (all_free c) (free_before c i) 0) (slice_get c.latches i) in
      get_or_append_left (openings_of c (all_free c)) (openings_of d kept) 0 j (omega (arith, less, length-table 0 (length c.latches) f))
      ∙ table-at 0 (length c.latches) f j 0 less ∙ ap f (zero-add j)

  -- and of the other
  pub opening-second : (j : ℕ) → j < length d.latches → get_or (openings c d kept) (length c.latches + j) 0 ≡ opening_of (get_or kept (free_before d j) 0) (slice_get d.latches j)
  opening-second j less =
      let f : ℕ → ℕ = λ i. opening_of (get_or (all_free c) (free_before c i) 0) (slice_get c.latches i) in
      let g : ℕ → ℕ = λ i. opening_of (get_or kept (free_before d i) 0) (slice_get d.latches i) in
      let place : length c.latches + j ≡ length (openings_of c (all_free c)) + j = omega (arith, length-table 0 (length c.latches) f) in
      ap (λ (n : ℕ). get_or (openings c d kept) n 0) place
      ∙ get_or-append-add (openings_of c (all_free c)) (openings_of d kept) j 0
      ∙ table-at 0 (length d.latches) g j 0 less ∙ ap g (zero-add j)

  -- the values of openings, by the choice for the free latches
  abbrev chosen_value : Choice → ℕ → Bool
  chosen_value f lit = signed lit (if nat_lt (variable lit) 1 then false else f (variable lit - 1))

  chosen-negation : (f : Choice) (v : ℕ) → chosen_value f (2 * v + 1) ≡ not (chosen_value f (2 * v))
  chosen-negation f v =
      let odd : (2 * v + 1) % 2 ≡ 1 = omega arith in
      let even : (2 * v) % 2 ≡ 0 = omega arith in
      let one : variable (2 * v + 1) ≡ v = omega arith in
      let other : variable (2 * v) ≡ v = omega arith in
      let at : ℕ → Bool = λ n. if nat_lt n 1 then false else f (n - 1) in
      signed-odd (2 * v + 1) (at (variable (2 * v + 1))) odd
      ∙ ap (λ (n : ℕ). not (at n)) (one ∙ sym other)
      ∙ ap not (sym (signed-even (2 * v) (at (variable (2 * v))) even))

  -- the value of the opening of a latch is what it holds at step 0
  chosen-opening : (f : Choice) (reset : Reset) (place : ℕ) (b : Bool) → (reset ≡ Free → f place ≡ b) → chosen_value f (opening_literal reset (choice_literal place)) ≡ opening reset b
  chosen-opening f Zero place b same = refl
  chosen-opening f One place b same = refl
  chosen-opening f Free place b same =
      let even : choice_literal place % 2 ≡ 0 = omega arith in
      let var : variable (choice_literal place) ≡ 1 + place = omega arith in
      let back : (1 + place) - 1 ≡ place = omega arith in
      let at : ℕ → Bool = λ n. if nat_lt n 1 then false else f (n - 1) in
      signed-even (choice_literal place) (at (variable (choice_literal place))) even
      ∙ ap at var
      ∙ cond-false (nat_lt (1 + place) 1) false (f ((1 + place) - 1)) (le-ltb (1 + place) 1 (omega arith))
      ∙ ap f back ∙ same refl

  is-free : (l : Latch) → l.reset ≡ Free → is_free l ≡ true
  is-free l e = ap (λ (q : Reset). elim q [ Zero ↦ false | One ↦ false | Free ↦ true ]) e

  -- so the latches hold at step 0 the values of their openings
  pub begins-value : (f : Choice) (j : ℕ) → j < length c.latches + length d.latches → held c (opening_state c f) (opening_state d (chosen kept f)) j ≡ chosen_value f (get_or (openings c d kept) j 0)
  begins-value f j less = elim (cases_lt j (length c.latches)) [
    | inl before ↦ (
        let there = element c.latches j before in
        let place : ℕ = get_or (all_free c) (free_before c j) 0 in
        let own : there.0.reset ≡ Free → f place ≡ f (free_before c j) = λ e.
        let fewer : free_before c j < free_latches c = free-less c j there.0 there.1 (is-free there.0 e) (length c.latches) before (omega arith) in
        ap f (get_or-range_with_len 0 (free_latches c) (free_before c j) 0 fewer ∙ zero-add (free_before c j)) in
        held-first c (opening_state c f) (opening_state d (chosen kept f)) j before
        ∙ ap (opening_at c f j) there.1
        ∙ sym (chosen-opening f there.0.reset place (f (free_before c j)) own)
        ∙ sym (ap (λ o. chosen_value f (opening_of place o)) there.1)
        ∙ sym (ap (chosen_value f) (opening-first j before)))
    | inr past ↦ (
        let i : ℕ = j - length c.latches in
        let there = element d.latches i (omega (arith, less, past)) in
        let place : ℕ = get_or kept (free_before d i) 0 in
        let at : length c.latches + i ≡ j = omega (arith, past) in
        held-second c (opening_state c f) (opening_state d (chosen kept f)) j past
        ∙ ap (opening_at d (chosen kept f) i) there.1
        ∙ sym (chosen-opening f there.0.reset place (f place) (λ e. refl))
        ∙ sym (ap (λ o. chosen_value f (opening_of place o)) there.1)
        ∙ sym (ap (chosen_value f) (opening-second i (omega (arith, less, past))))
        ∙ ap (λ (n : ℕ). chosen_value f (get_or (openings c d kept) n 0)) at)
  ]

  -- where the latches begin as what they read as, they hold that at step 0
  pub starts-agree : (reads : List ℕ) → BeginAlike (first_latch c) (openings c d kept) reads → (f : Choice) → AgreesWith c reads (opening_state c f) (opening_state d (chosen kept f))
  starts-agree reads alike f j less =
      let s : State = opening_state c f in
      let r : State = opening_state d (chosen kept f) in
      let lit : ℕ = get_or reads j 0 in
      begins-value f j (omega (arith, less, alike.long, length-openings)) ∙ go lit (get_or (openings c d kept) j 0) (alike.each j less)
    where
      go : (lit begin : ℕ) → BeginsAs (first_latch c) (openings c d kept) lit begin → chosen_value f begin ≡ read_value c (opening_state c f) (opening_state d (chosen kept f)) lit
      go lit begin (constant zero e) =
          ap (chosen_value f) e
          ∙ ap (signed lit) (cond-true (nat_lt (variable lit) 1) false (f (variable lit - 1)) (lt-ltb (variable lit) 1 (omega (arith, zero))))
          ∙ sym (read-constant c (opening_state c f) (opening_state d (chosen kept f)) lit zero)
      go lit begin (latch from below e) =
          let i : ℕ = variable lit - first_latch c in
          ap (chosen_value f) e
          ∙ value_signed_as (chosen_value f) (chosen-negation f) lit (get_or (openings c d kept) i 0)
          ∙ ap (signed lit) (sym (begins-value f i (omega (arith, from, below, length-openings))))
          ∙ sym (read-latch c (opening_state c f) (opening_state d (chosen kept f)) lit from)
