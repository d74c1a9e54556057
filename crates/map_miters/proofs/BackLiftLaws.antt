-- Over both circuits beside each other a witness circuit of the one is one of the other, by the map
-- turned round.
use Rattle.std.proofs.Common.{inl, inr, ℕ, ◌+◌, ◌<◌, ◌≤◌, ◌≡◌, Bool, true, false, List, length, slice_get, Some, refl, arith, ap, sym, ◌∙◌, subst}
use Rattle.std.specs.List.{All}
use Rattle.std.proofs.lemmas.Bool.{cases_lt}
use Rattle.std.proofs.lemmas.List.{get_or_past, length-map}
use Rattle.std.proofs.lemmas.Option.{slice_get_past}
use Rattle.aig_graph.specs.declared.graph.Latch.{Latch}
use Rattle.aig_graph.specs.declared.graph.Reset.{Reset}
use Rattle.aig_graph.specs.declared.graph.Reset.TheVariants.{Zero, One, Free}
use Rattle.aig_graph.specs.Circuits.{IsNetlist, Netlist}
use Rattle.aig_graph.specs.Graph.{IsGraph, free_before, free_latches, is_free_latch}
use Rattle.aig_graph.specs.Streams.{chosen}
use Rattle.aig_graph.specs.Value.{Choice, next_value, opening, opening_at, value_within}
use Rattle.aig_graph.proofs.KindLaws.{element}
use Rattle.aig_graph.proofs.StreamLaws.{funext}
use Rattle.state_maps.specs.MapCircuits.{IsMapCircuit, image, is_kept, mapped}
use Rattle.state_maps.specs.States.{Digits, IsAllowed, SameReads, State, after_step, opening_state}
use Rattle.witness_circuits.specs.declared.sharing.Sharing.{Sharing}
use Rattle.witness_circuits.specs.Lifting.{GoesAs}
use Rattle.witness_circuits.specs.Witnesses.{IsGood, bad_states}
use Rattle.witness_circuits.proofs.AgreeLaws.{HaveSame, after_step-alike, alike-itself, literals-alike}
use Rattle.witness_circuits.proofs.CarrierLaws.{IsCarrier, bad-within, kept-alike, mapped-alike, sharing-carried, witness-carried}
use Rattle.witness_circuits.proofs.FirstLaws.{first-opens, first-steps}
use Rattle.witness_circuits.proofs.LiftLaws.{allowed-back, good-there}
use Rattle.witness_circuits.proofs.OpeningLaws.{held_choice, opened, opening-twice}
use Rattle.state_maps.proofs.FreeLaws.{free-fewer}
use Rattle.map_miters.specs.Products.{GivesState, second_state}
use Rattle.map_miters.specs.Beside.{IsBeside, in_second}
use Rattle.map_miters.specs.Lifting.{LiftsBack}
use Rattle.map_miters.specs.Turned.{IsTurned}

-- what a latch with a known reset holds at step 0 doesn't rest on choices
known-same : (r : Reset) (a b : Bool) → ((r ≡ Free) → ⊥) → opening r a ≡ opening r b
known-same Zero a b known = refl
known-same One a b known = refl
known-same Free a b known = absurd (known refl)

free-reset : (r : Reset) → r ≡ Free → (elim r [ Zero ↦ false | One ↦ false | Free ↦ true ]) ≡ true
free-reset r e = ap (λ (x : Reset). elim x [ Zero ↦ false | One ↦ false | Free ↦ true ]) e

module _ (c d : Netlist) (kept : List ℕ) (m b t : Netlist) (valid : IsGraph c.aig) (net : IsNetlist c) (second : IsGraph d.aig) (none : free_latches c.aig ≡ 0) (is : IsMapCircuit d c kept m)
    (beside : IsBeside c d b) (graph : IsGraph t.aig) (netlist : IsNetlist t) (turns : IsTurned c d m t) where
  abbrev n : ℕ
  n = length c.aig.latches

  abbrev nd : ℕ
  nd = length d.aig.latches

  -- what d's latches hold
  abbrev to : State → State
  to s = mapped t s

  to-past : (s : State) (j : ℕ) → nd ≤ j → to s j ≡ false
  to-past s j beyond =
      get_or_past (image t.aig s t.props.outputs) j false (omega (arith, beyond, length-map t.props.outputs (value_within t.aig s (λ i. false)), turns.outputs))

  -- ---- the constraint of the map turned round
  gives : (s : State) → is_kept t s → GivesState m (to s) s
  gives s here =
      let has = (turns.kept s).0 here in
      let same : (i : ℕ) → i < m.aig.inputs → to s i ≡ second_state c.aig s i = λ i less. turns.gives s i (omega (arith, less, is.inputs)) in (
        kept-alike m is.graph is.netlist (second_state c.aig s) (to s) same has.0,
        λ j less. ap (λ (f : State). f j) (mapped-alike m is.graph is.netlist (second_state c.aig s) (to s) same) ∙ has.1 j less,
      )

  holds : (s : State) → GivesState m (to s) s → is_kept t s
  holds s has =
      let same : (i : ℕ) → i < m.aig.inputs → second_state c.aig s i ≡ to s i = λ i less. sym (turns.gives s i (omega (arith, less, is.inputs))) in
      (turns.kept s).1 (
        kept-alike m is.graph is.netlist (to s) (second_state c.aig s) same has.0,
        λ j less. ap (λ (f : State). f j) (mapped-alike m is.graph is.netlist (to s) (second_state c.aig s) same) ∙ has.1 j less,
      )

  -- what the map gives is what c's latches hold
  same-first : (x : Digits) (s : State) → is_kept t s → HaveSame c.aig x x s (mapped m (to s))
  same-first x s here = record { inputs = λ i less. refl; latches = λ j less. (gives s here).1 j (omega (arith, less, is.outputs)) }

  -- ---- first states
  not-free : (j : ℕ) (latch : Latch) → slice_get c.aig.latches j ≡ Some latch → j < n → (latch.reset ≡ Free) → ⊥
  not-free j latch there less free =
      let fewer : free_before c.aig j < free_before c.aig n = free-fewer c.aig j n (ap is_free_latch there ∙ free-reset latch.reset free) less (omega arith) in
      omega (arith, fewer, none)

  opens-any : (f g : Choice) (j : ℕ) → j < n → opening_state c.aig f j ≡ opening_state c.aig g j
  opens-any f g j less =
      let own = element c.aig.latches j less in
      ap (opening_at c.aig f j) own.1
      ∙ known-same own.0.reset (f (free_before c.aig j)) (g (free_before c.aig j)) (not-free j own.0 own.1 less)
      ∙ sym (ap (opening_at c.aig g j) own.1)

  long : n ≤ length b.aig.latches
  long = omega (arith, beside.latches)

  starts : (f : Choice) (j : ℕ) (latch : Latch) → slice_get d.aig.latches j ≡ Some latch → j < nd → opening latch.reset (to (opening_state b.aig f) j) ≡ to (opening_state b.aig f) j
  starts f j latch there less =
      let goes : GoesAs b.aig (n + j) latch (in_second c d) = beside.second j latch there in
      let held : to (opening_state b.aig f) j ≡ opening latch.reset (f (free_before b.aig (n + j))) =
      turns.gives (opening_state b.aig f) j less ∙ ap (opening_at b.aig f (n + j)) goes.there ∙ ap (λ (x : Reset). opening x (f (free_before b.aig (n + j)))) goes.reset in
      ap (opening latch.reset) held ∙ opening-twice latch.reset (f (free_before b.aig (n + j))) ∙ sym held

  begins : (f : Choice) → is_kept t (opening_state b.aig f) × ((g : Choice) × (to (opening_state b.aig f) ≡ opening_state d.aig g))
  begins f =
      let s : State = opening_state b.aig f in
      let g : Choice = held_choice d.aig (to s) in
      let opens : opening_state d.aig g ≡ to s =
      opened d.aig (to s) (λ j latch there. elim (cases_lt j nd) [
        | inl less ↦ starts f j latch there less
        | inr beyond ↦ absurd (let past = slice_get_past d.aig.latches j beyond in cc)
      ]) (λ j beyond. to-past s j beyond) in
      let kept_here : is_kept m (to s) = subst (λ (v : State). is_kept m v) opens (is.maps.holds_first g) in
      let mapped_here : mapped m (to s) ≡ opening_state c.aig (chosen kept g) = sym (ap (mapped m) opens) ∙ is.maps.first g in (
        holds s (
          kept_here,
          λ j less.
              let short : j < n = omega (arith, less, is.outputs) in
              ap (λ (v : State). v j) mapped_here ∙ opens-any (chosen kept g) f j short ∙ sym (first-opens b.aig c beside.first long f j short),
        ),
        (g, sym opens),
      )

  -- ---- steps
  steps : (x : Digits) (s : State) → to (after_step b.aig x s) ≡ after_step d.aig x (to s)
  steps x s = funext (to (after_step b.aig x s)) (after_step d.aig x (to s)) each
    where
      alike : after_step d.aig x (to s) ≡ after_step d.aig x (second_state c.aig s)
      alike = after_step-alike d.aig second x x (second_state c.aig s) (to s) (record { inputs = λ i less. refl; latches = λ j less. turns.gives s j less })

      each : (j : ℕ) → to (after_step b.aig x s) j ≡ after_step d.aig x (to s) j
      each j = elim (cases_lt j nd) [
        | inl less ↦ (
            let own = element d.aig.latches j less in
            let goes : GoesAs b.aig (n + j) own.0 (in_second c d) = beside.second j own.0 own.1 in
            turns.gives (after_step b.aig x s) j less
            ∙ ap (next_value (value_within b.aig x s)) goes.there ∙ goes.next x s
            ∙ sym (ap (next_value (value_within d.aig x (second_state c.aig s))) own.1)
            ∙ sym (ap (λ (v : State). v j) alike))
        | inr beyond ↦ to-past (after_step b.aig x s) j beyond ∙ sym (ap (next_value (value_within d.aig x (to s))) (slice_get_past d.aig.latches j beyond))
      ]

  keeps : (x : Digits) (s : State) → is_kept t s → is_kept t (after_step b.aig x s)
  keeps x s here =
      let v : State = after_step b.aig x s in
      let has = gives s here in
      let at : to v ≡ after_step d.aig x (to s) = steps x s in
      let mapped_there : mapped m (to v) ≡ after_step c.aig x (mapped m (to s)) = ap (mapped m) at ∙ is.maps.steps x (to s) has.0 in
      let stepped : after_step c.aig x (mapped m (to s)) ≡ after_step c.aig x s = after_step-alike c.aig valid x x s (mapped m (to s)) (same-first x s here) in
      holds v (
        subst (λ (w : State). is_kept m w) (sym at) (is.maps.keeps x (to s) has.0),
        λ j less. ap (λ (w : State). w j) (mapped_there ∙ stepped) ∙ sym (first-steps b.aig c beside.first long x s j (omega (arith, less, is.outputs))),
      )

  reads : (x : Digits) (s : State) → is_kept t s → SameReads d c x (to s) (mapped m (to s))
  reads x s here = is.maps.reads x (to s) (gives s here).0

  allows : (x : Digits) (s : State) → is_kept t s → IsAllowed c x s → IsAllowed d x (to s)
  allows x s here h =
      allowed-back d c x (to s) (mapped m (to s)) (reads x s here)
      (subst (λ (bs : List Bool). All (λ b. b ≡ true) bs)
      (sym (literals-alike c.aig c.aig valid valid (alike-itself c.aig) x x s (mapped m (to s)) (same-first x s here) c.props.constraints net.props.constraints)) h)

  shows : (x : Digits) (s : State) → is_kept t s → IsGood d x (to s) → IsGood c x s
  shows x s here h =
      subst (λ (bs : List Bool). All (λ b. b ≡ false) bs)
      (literals-alike c.aig c.aig valid valid (alike-itself c.aig) x x s (mapped m (to s)) (same-first x s here) (bad_states c.props) (bad-within c net))
      (good-there d c x (to s) (mapped m (to s)) (reads x s here) h)

  -- both beside each other carry the witness circuits of the second
  pub is-carrier : IsCarrier c d b t
  is-carrier = record {
    inputs = beside.inputs;
    many = long;
    first = beside.first;
    allowed = beside.allowed;
    graph = graph;
    netlist = netlist;
    wide = turns.inputs ∙ sym beside.latches;
    begins = begins;
    keeps = keeps;
    steps = λ x s here. steps x s;
    allows = allows;
    shows = shows;
  }

-- a witness circuit of the second circuit, lifted back, is one of the first
pub lifts-back : (c d : Netlist) (kept : List ℕ) (m w : Netlist) (k : Sharing) (r : Netlist) → LiftsBack c d kept m w k r
lifts-back c d kept m w k r valid net second none is sharing passes lifted =
    let carrier : IsCarrier c d lifted.both lifted.turned =
    is-carrier c d kept m lifted.both lifted.turned valid net second none is lifted.beside lifted.graph lifted.netlist lifted.turns in (
      sharing-carried c d lifted.both lifted.turned w k r valid net carrier sharing passes lifted.lifted,
      witness-carried c d lifted.both lifted.turned w k r valid net carrier sharing passes lifted.lifted,
    )
