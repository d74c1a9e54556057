-- Along a run of the model its witness circuit runs too, and stays good.
use Rattle.std.proofs.Common.{ℕ, suc, zero, ◌≤◌, ◌≡◌, inl, inr, Bool, false, List, length, slice_get, Option, Some, None, refl, arith, ap, sym, ◌∙◌, subst}
use Rattle.std.proofs.lemmas.Bool.{cases_lt}
use Rattle.std.proofs.lemmas.Option.{slice_get_past}
use Rattle.aig_graph.specs.declared.graph.Latch.{Latch}
use Rattle.aig_graph.specs.Circuits.{Netlist}
use Rattle.aig_graph.specs.Value.{Choice, Inputs, latch_value, next_value, opening, value_within}
use Rattle.aig_graph.proofs.KindLaws.{element}
use Rattle.state_maps.specs.States.{Digits, IsAllowed, State, after_step, opening_state}
use Rattle.witness_circuits.specs.declared.sharing.Sharing.{Sharing}
use Rattle.witness_circuits.specs.Joining.{joined}
use Rattle.witness_circuits.specs.Witnesses.{Agree, GoesOn, HasResets, IsGood, IsSharing, IsWitness}
use Rattle.witness_circuits.specs.Laws.{ShowsGood}
use Rattle.witness_circuits.proofs.JoiningLaws.{joined-agrees, joined-own, joined-past}
use Rattle.witness_circuits.proofs.OpeningLaws.{held_choice, opened, opening-twice}
use Rattle.aig_graph.proofs.StreamLaws.{funext}

-- what a latch without a choice holds at step 0
abbrev plain : Option Latch → Bool
plain None = false
plain (Some latch) = opening latch.reset false

-- a state whose shared latches hold the resets and whose own ones start as `own` is a first state
pub resets-open : (w : Netlist) (places : List (Option ℕ)) (shared own : State) → length places ≡ length w.aig.latches → HasResets w places (joined places shared own)
    → ((j : ℕ) (latch : Latch) → slice_get places j ≡ Some None → slice_get w.aig.latches j ≡ Some latch → opening latch.reset (own j) ≡ own j)
    → opening_state w.aig (held_choice w.aig (joined places shared own)) ≡ joined places shared own
resets-open w places shared own long resets starts =
    opened w.aig (joined places shared own) holds (λ j beyond. joined-past places shared own j (omega (arith, beyond, long)))
  where
    by_place : (j : ℕ) (latch : Latch) → slice_get w.aig.latches j ≡ Some latch → (o : Option ℕ) → slice_get places j ≡ Some o
        → opening latch.reset (joined places shared own j) ≡ joined places shared own j
    by_place j latch there None e =
        let here : joined places shared own j ≡ own j = joined-own places shared own j e in
        ap (opening latch.reset) here ∙ starts j latch e there ∙ sym here
    by_place j latch there (Some place) e = resets j place latch e there

    holds : (j : ℕ) (latch : Latch) → slice_get w.aig.latches j ≡ Some latch → opening latch.reset (joined places shared own j) ≡ joined places shared own j
    holds j latch there =
        elim (cases_lt j (length places)) [
          | inl short ↦ (let o = element places j short in by_place j latch there o.0 o.1)
          | inr beyond ↦ absurd (let past = slice_get_past w.aig.latches j (omega (arith, beyond, long)) in cc)
        ]

-- a state whose shared latches go on as the witness's, and whose own ones do too, is the one after
-- a step
pub goes-joined : (w : Netlist) (places : List (Option ℕ)) (y : Digits) (t shared own : State) → length places ≡ length w.aig.latches → GoesOn w places y t (joined places shared own)
    → ((j : ℕ) (latch : Latch) → slice_get places j ≡ Some None → slice_get w.aig.latches j ≡ Some latch → own j ≡ value_within w.aig y t latch.next)
    → joined places shared own ≡ after_step w.aig y t
goes-joined w places y t shared own long goes follows = funext (joined places shared own) (after_step w.aig y t) each
  where
    by_place : (j : ℕ) (latch : Latch) → slice_get w.aig.latches j ≡ Some latch → (o : Option ℕ) → slice_get places j ≡ Some o → joined places shared own j ≡ value_within w.aig y t latch.next
    by_place j latch there None e = joined-own places shared own j e ∙ follows j latch e there
    by_place j latch there (Some place) e = goes j place latch e there

    each : (j : ℕ) → joined places shared own j ≡ after_step w.aig y t j
    each j = elim (cases_lt j (length places)) [
      | inl short ↦ (
          let o = element places j short in
          let latch = element w.aig.latches j (omega (arith, short, long)) in
          by_place j latch.0 latch.1 o.0 o.1 ∙ sym (ap (next_value (value_within w.aig y t)) latch.1))
      | inr beyond ↦ joined-past places shared own j beyond ∙ sym (ap (next_value (value_within w.aig y t)) (slice_get_past w.aig.latches j (omega (arith, beyond, long))))
    ]

module _ (c w : Netlist) (k : Sharing) (sharing : IsSharing c w k) (passes : IsWitness c w k) (x : Inputs) (f : Choice) where
  abbrev state : ℕ → State
  state n = latch_value c.aig x f n

  abbrev digits : ℕ → Digits
  digits n = joined k.inputs (x n) (λ i. false)

  state-first : state 0 ≡ opening_state c.aig f
  unfolding latch_value
  state-first = refl

  state-later : (n : ℕ) → state (suc n) ≡ after_step c.aig (x n) (state n)
  unfolding latch_value
  state-later n = refl

  record At (n : ℕ) : Type 0 where
    -- what the witness's latches hold
    pub held : State
    -- the shared latches hold what the model's do at step n
    pub agrees : Agree k.latches (state n) held
    -- the witness's constraints hold there
    pub allowed : IsAllowed w (digits n) held
    -- no bad state of the witness is 1 there
    pub good : IsGood w (digits n) held

  at-first : IsAllowed c (x 0) (state 0) → At 0
  at-first allowed =
      let own : State = λ j. plain (slice_get w.aig.latches j) in
      let t : State = joined k.latches (opening_state c.aig f) own in
      let reset = passes.reset f (x 0) (digits 0) t (joined-agrees k.inputs (x 0) (λ i. false), joined-agrees k.latches (opening_state c.aig f) own)
      (subst (λ (s : State). IsAllowed c (x 0) s) state-first allowed) in
      let starts : (j : ℕ) (latch : Latch) → slice_get k.latches j ≡ Some None → slice_get w.aig.latches j ≡ Some latch → opening latch.reset (own j) ≡ own j =
      λ j latch e there.
      let here : own j ≡ opening latch.reset false = ap plain there in
      ap (opening latch.reset) here ∙ opening-twice latch.reset false ∙ sym here in
      let opens : opening_state w.aig (held_choice w.aig t) ≡ t = resets-open w k.latches (opening_state c.aig f) own sharing.latches reset.0 starts in
      let good : IsGood w (digits 0) (opening_state w.aig (held_choice w.aig t)) =
      passes.base (held_choice w.aig t) (digits 0) (subst (λ (s : State). IsAllowed w (digits 0) s) (sym opens) reset.1) in
      record {
        held = t;
        agrees = subst (λ (s : State). Agree k.latches s t) (sym state-first) (joined-agrees k.latches (opening_state c.aig f) own);
        allowed = reset.1;
        good = subst (λ (s : State). IsGood w (digits 0) s) opens good;
      }

  at-later : (n : ℕ) → At n → IsAllowed c (x n) (state n) → IsAllowed c (x (suc n)) (state (suc n)) → At (suc n)
  at-later n now allowed after =
      let s1 : State = after_step c.aig (x n) (state n) in
      let own : State = after_step w.aig (digits n) now.held in
      let u : State = joined k.latches s1 own in
      let goes = passes.transition (x n) (x (suc n)) (digits n) (digits (suc n)) (state n) now.held u (joined-agrees k.inputs (x n) (λ i. false), now.agrees)
      (joined-agrees k.inputs (x (suc n)) (λ i. false), joined-agrees k.latches s1 own) allowed (subst (λ (s : State). IsAllowed c (x (suc n)) s) (state-later n) after) now.allowed in
      let is : u ≡ own = goes-joined w k.latches (digits n) now.held s1 own sharing.latches goes.0 (λ j latch e there. ap (next_value (value_within w.aig (digits n) now.held)) there) in
      let good : IsGood w (digits (suc n)) own =
      passes.step (digits n) (digits (suc n)) now.held now.good now.allowed (subst (λ (s : State). IsAllowed w (digits (suc n)) s) is goes.1) in
      record {
        held = u;
        agrees = subst (λ (s : State). Agree k.latches s u) (sym (state-later n)) (joined-agrees k.latches s1 own);
        allowed = goes.1;
        good = subst (λ (s : State). IsGood w (digits (suc n)) s) (sym is) good;
      }

  along : (n : ℕ) → ((t : ℕ) → t ≤ n → IsAllowed c (x t) (state t)) → At n
  along zero allowed = at-first (allowed 0 (omega arith))
  along (suc n) allowed = at-later n (along n (λ t h. allowed t (omega (arith, h)))) (allowed n (omega arith)) (allowed (suc n) (omega arith))

  -- no bad state of the model is 1 at a step up to which the model's constraints hold
  pub stays-good : (n : ℕ) → ((t : ℕ) → t ≤ n → IsAllowed c (x t) (state t)) → IsGood c (x n) (state n)
  stays-good n allowed =
      let now = along n allowed in
      passes.property (x n) (digits n) (state n) now.held (joined-agrees k.inputs (x n) (λ i. false), now.agrees) (allowed n (omega arith)) now.allowed now.good

-- a witness circuit that passes the five checks shows that the model stays good
pub shows-good : (c w : Netlist) (k : Sharing) → ShowsGood c w k
shows-good c w k sharing passes x f n allowed = stays-good c w k sharing passes x f n allowed
