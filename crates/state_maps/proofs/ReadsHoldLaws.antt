-- Each latch holds what it reads as, at the start and from step to step.
use Rattle.std.proofs.Common.{ℕ, ◌+◌, ◌<◌, ◌≡◌, suc, zero, List, [], ◌∷◌, Bool, true, false, not, Some, slice_get, refl, arith, ap, sym, ◌∙◌, subst}
use Rattle.std.proofs.lemmas.Bool.{and_from, and_parts}
use Rattle.std.proofs.lemmas.Option.{none-some}
use Rattle.aig_graph.proofs.SignLaws.{value_signed_as}
use Rattle.aig_graph.specs.Gates.{Respects, gates_of}
use Rattle.aig_graph.specs.Graph.{Graph, IsGraph, variable, variables_end, is_free, free_before}
use Rattle.aig_graph.specs.Value.{Choice, next_value, opening_at, value_within}
use Rattle.aig_graph.specs.declared.graph.Latch.{Latch}
use Rattle.aig_graph.specs.declared.graph.Reset.{Reset}
use Rattle.aig_graph.specs.declared.graph.Reset.TheVariants.{Zero, One, Free}
use Rattle.cleaned_circuits.specs.Latches.{constant_of}
use Rattle.cleaned_circuits.specs.Merged.{replaced}
use Rattle.cleaned_circuits.proofs.LatchLaws.{constant-even}
use Rattle.merged_circuits.specs.Readings.{own_literal, read, from_reset, ReadsAs, as_itself, as_constant, as_first, substitutes_by}
use Rattle.merged_circuits.specs.Inductive.{Agrees, IsInductive, told}
use Rattle.merged_circuits.proofs.ShownLaws.{substitutes-value as values-by}
use Rattle.merged_circuits.proofs.ValueLaws.{may-known, flipped, flipped-twice, opening-known}
use Rattle.state_maps.specs.States.{Digits, State, after_step, opening_state}
use Rattle.state_maps.specs.RetimedStates.{agrees}
use Rattle.state_maps.proofs.FrameMapLaws.{agrees-is, is-agrees}
use Rattle.state_maps.proofs.WithinLaws.{WithinLaws, within_laws}
use Rattle.state_maps.specs.MergedStates.{ReadsHold, reads_right}

-- what literals have in a state
module _ (g : Graph) (valid : IsGraph g) (x : Digits) (s : State) where
  abbrev vals : ℕ → Bool
  vals lit = value_within g x s lit

  laws : WithinLaws g x s vals
  laws = within_laws g valid x s

  constant-value : (reset : Reset) → vals (constant_of reset) ≡ flipped reset false
  constant-value Zero = laws.constant
  constant-value One = laws.negation 0 ∙ ap not laws.constant
  constant-value Free = laws.constant

  from_reset-value : (reset : Reset) (lit : ℕ) → vals (from_reset reset lit) ≡ flipped reset (vals lit)
  from_reset-value reset lit = value_signed_as vals laws.negation (constant_of reset) lit

  first-value : (i : ℕ) (latch first : Latch) (lit : ℕ) → slice_get g.latches i ≡ Some first → lit ≡ from_reset latch.reset (from_reset first.reset (own_literal g i))
      → vals lit ≡ flipped latch.reset (flipped first.reset (s i))
  first-value i latch first lit there e =
      ap vals e ∙ from_reset-value latch.reset (from_reset first.reset (own_literal g i))
      ∙ ap (flipped latch.reset) (from_reset-value first.reset (own_literal g i) ∙ ap (flipped first.reset) (laws.latch i first there))

module _ (g : Graph) (held reads : List ℕ) (valid : IsGraph g) (kept : IsInductive g held reads) where
  -- if each latch holds what it reads as, what merging makes of a literal has its value
  module _ (x : Digits) (s : State) (holds : ReadsHold g reads s) where
    respects : Respects (gates_of g) (vals g valid x s)
    respects = record { constant = (laws g valid x s).constant; negation = (laws g valid x s).negation; gates = (laws g valid x s).gate }

    agrees-here : Agrees g reads (vals g valid x s)
    agrees-here j latch there = holds x j latch there ∙ sym ((laws g valid x s).latch j latch there)

    -- what stands for a literal has its value, in a state in which latches hold what they read as
    pub substitutes-value : (lit : ℕ) → variable lit < variables_end g → value_within g x s (replaced (substitutes_by g reads) lit) ≡ value_within g x s lit
    substitutes-value lit h = values-by g held reads valid kept.reading (vals g valid x s) respects agrees-here lit h

    later : (j : ℕ) (latch : Latch) → slice_get g.latches j ≡ Some latch → after_step g x s j ≡ vals g valid x s latch.next
    later j latch there = ap (next_value (vals g valid x s)) there

    -- and a step later each latch holds what it reads as again
    pub reads-keep : ReadsHold g reads (after_step g x s)
    reads-keep y j latch there = by (read reads j) refl (kept.reading.each j latch there)
      where
        by : (lit : ℕ) → read reads j ≡ lit → ReadsAs g held reads j latch lit → value_within g y (after_step g x s) lit ≡ after_step g x s j
        by lit is (as_itself e) = ap (vals g valid y (after_step g x s)) e ∙ (laws g valid y (after_step g x s)).latch j latch there
        by lit is (as_constant may e) =
            let zero_told : vals g valid x s (told latch) ≡ vals g valid x s 0 = kept.constants j latch there (omega (arith, is, e, constant-even latch.reset)) (vals g valid x s) respects agrees-here in
            let stays : flipped latch.reset (vals g valid x s latch.next) ≡ false =
            sym (from_reset-value g valid x s latch.reset latch.next) ∙ zero_told ∙ (laws g valid x s).constant in
            ap (vals g valid y (after_step g x s)) e ∙ constant-value g valid y (after_step g x s) latch.reset ∙ ap (flipped latch.reset) (sym stays)
            ∙ flipped-twice latch.reset (vals g valid x s latch.next) ∙ sym (later j latch there)
        by lit is (as_first i first less first_there may may_first own e) =
            let same : vals g valid x s (told latch) ≡ vals g valid x s (told first) = kept.alike j i latch first there first_there (omega (arith, is, e)) (vals g valid x s) respects agrees-here in
            let both : flipped first.reset (vals g valid x s first.next) ≡ flipped latch.reset (vals g valid x s latch.next) =
            sym (from_reset-value g valid x s first.reset first.next) ∙ sym same ∙ from_reset-value g valid x s latch.reset latch.next in
            first-value g valid y (after_step g x s) i latch first lit first_there e
            ∙ ap (λ (b : Bool). flipped latch.reset (flipped first.reset b)) (later i first first_there)
            ∙ ap (flipped latch.reset) both ∙ flipped-twice latch.reset (vals g valid x s latch.next) ∙ sym (later j latch there)

  -- so it does at the start
  pub reads-first : (f : Choice) → ReadsHold g reads (opening_state g f)
  reads-first f x j latch there = by (read reads j) (kept.reading.each j latch there)
    where
      begins : (i : ℕ) (first : Latch) → slice_get g.latches i ≡ Some first → is_free first ≡ false → opening_state g f i ≡ flipped first.reset false
      begins i first first_there known = ap (opening_at g f i) first_there ∙ opening-known first.reset first.next (f (free_before g i)) known

      by : (lit : ℕ) → ReadsAs g held reads j latch lit → value_within g x (opening_state g f) lit ≡ opening_state g f j
      by lit (as_itself e) = ap (vals g valid x (opening_state g f)) e ∙ (laws g valid x (opening_state g f)).latch j latch there
      by lit (as_constant may e) =
          ap (vals g valid x (opening_state g f)) e ∙ constant-value g valid x (opening_state g f) latch.reset ∙ sym (begins j latch there (may-known held j latch may))
      by lit (as_first i first less first_there may may_first own e) =
          first-value g valid x (opening_state g f) i latch first lit first_there e
          ∙ ap (λ (b : Bool). flipped latch.reset (flipped first.reset b)) (begins i first first_there (may-known held i first may_first))
          ∙ ap (flipped latch.reset) (flipped-twice first.reset false)
          ∙ sym (begins j latch there (may-known held j latch may))

  -- as a test
  module _ (s : State) where
    abbrev holds_at : ℕ → Bool
    holds_at j = value_within g (λ i. false) s (read reads j)

    from-test : (n : ℕ) (latches : List Latch) → reads_right g reads s n latches ≡ true → (k : ℕ) (latch : Latch) → slice_get latches k ≡ Some latch → holds_at (n + k) ≡ s (n + k)
    unfolding reads_right
    from-test n [] e k latch there = absurd (none-some latch there)
    from-test n (l ∷ ls) e zero latch there =
        let here : n + 0 ≡ n = omega arith in
        let parts = and_parts (agrees (holds_at n) (s n)) (reads_right g reads s (suc n) ls) e in
        ap holds_at here ∙ agrees-is (holds_at n) (s n) parts.0 ∙ ap s (sym here)
    from-test n (l ∷ ls) e (suc k) latch there =
        let place : suc n + k ≡ n + suc k = omega arith in
        let parts = and_parts (agrees (holds_at n) (s n)) (reads_right g reads s (suc n) ls) e in
        subst (λ (j : ℕ). holds_at j ≡ s j) place (from-test (suc n) ls parts.1 k latch there)

    to-test : (n : ℕ) (latches : List Latch) → ((k : ℕ) (latch : Latch) → slice_get latches k ≡ Some latch → holds_at (n + k) ≡ s (n + k)) → reads_right g reads s n latches ≡ true
    unfolding reads_right
    to-test n [] each = refl
    to-test n (l ∷ ls) each =
        let here : n + 0 ≡ n = omega arith in
        and_from (agrees (holds_at n) (s n)) (reads_right g reads s (suc n) ls)
        (is-agrees (holds_at n) (s n) (subst (λ (j : ℕ). holds_at j ≡ s j) here (each 0 l refl)))
        (to-test (suc n) ls (λ k latch there. let place : n + suc k ≡ suc n + k = omega arith in subst (λ (j : ℕ). holds_at j ≡ s j) place (each (suc k) latch there)))

    -- what a latch reads as has its value whatever comes in
    pub steady : (x : Digits) (j : ℕ) (latch : Latch) → slice_get g.latches j ≡ Some latch → value_within g x s (read reads j) ≡ holds_at j
    steady x j latch there = by (read reads j) (kept.reading.each j latch there)
      where
        by : (lit : ℕ) → ReadsAs g held reads j latch lit → value_within g x s lit ≡ value_within g (λ i. false) s lit
        by lit (as_itself e) =
            ap (vals g valid x s) e ∙ (laws g valid x s).latch j latch there ∙ sym ((laws g valid (λ i. false) s).latch j latch there) ∙ sym (ap (vals g valid (λ i. false) s) e)
        by lit (as_constant may e) =
            ap (vals g valid x s) e ∙ constant-value g valid x s latch.reset ∙ sym (constant-value g valid (λ i. false) s latch.reset) ∙ sym (ap (vals g valid (λ i. false) s) e)
        by lit (as_first i first less first_there may may_first own e) =
            first-value g valid x s i latch first lit first_there e ∙ sym (first-value g valid (λ i. false) s i latch first lit first_there e)

    -- if the test says so, each latch holds what it reads as
    pub test-holds : reads_right g reads s 0 g.latches ≡ true → ReadsHold g reads s
    test-holds e x j latch there =
        let place : 0 + j ≡ j = omega arith in
        steady x j latch there ∙ subst (λ (k : ℕ). holds_at k ≡ s k) place (from-test 0 g.latches e j latch there)

    -- if each latch holds what it reads as, the test says so
    pub holds-test : ReadsHold g reads s → reads_right g reads s 0 g.latches ≡ true
    holds-test holds = to-test 0 g.latches (λ k latch there. let place : k ≡ 0 + k = omega arith in subst (λ (j : ℕ). holds_at j ≡ s j) place (holds (λ i. false) k latch there))
