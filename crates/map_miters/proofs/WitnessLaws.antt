-- The product machine by a map passes the five checks for the model, if the map begins, keeps,
-- steps and reads as it should.
use Rattle.std.proofs.Common.{inl, inr, ℕ, suc, zero, ◌+◌, ◌-◌, ◌<◌, ◌≤◌, ◌≡◌, Bool, true, false, List, [], ◌∷◌, ◌++◌, length, map, count_by, get_or, slice_get, Some, cond, refl, arith, ap, sym, ◌∙◌, subst}
use Rattle.std.specs.List.{All}
use Rattle.std.proofs.Math.Seq.{take-length}
use Rattle.std.proofs.lemmas.Bool.{cases_lt}
use Rattle.std.proofs.lemmas.List.{length-append, length-map}
use Rattle.std.proofs.lemmas.Option.{none-some, same_Some, slice_get_within}
use Rattle.aig_graph.proofs.ListLaws.{count_by-cons, slice_get-map_some}
use Rattle.aig_graph.proofs.PlacesLaws.{slice_get-append_left, slice_get-append_right}
use Rattle.aig_graph.specs.declared.graph.Latch.{Latch}
use Rattle.aig_graph.specs.declared.graph.Reset.{Reset}
use Rattle.aig_graph.specs.declared.graph.Reset.TheVariants.{Zero, Free}
use Rattle.aig_graph.specs.Circuits.{AreLiteralsOf, IsNetlist, Netlist}
use Rattle.aig_graph.specs.Graph.{IsGraph, free_before, free_latches, is_free, is_free_latch}
use Rattle.aig_graph.specs.Streams.{property_literals}
use Rattle.aig_graph.specs.Value.{Choice, next_value, opening, opening_at, value_within}
use Rattle.aig_graph.proofs.KindLaws.{element}
use Rattle.state_maps.specs.MapCircuits.{image, is_kept, mapped}
use Rattle.state_maps.specs.States.{Digits, IsAllowed, State, after_step, opening_state}
use Rattle.witness_circuits.specs.Witnesses.{AreJoint, GoesOn, HasResets, IsGood, IsSharing, IsWitness, bad_states}
use Rattle.witness_circuits.proofs.OpeningLaws.{opening-known, opening-twice}
use Rattle.witness_circuits.specs.LiftedLaws.{first_places, first_shared}
use Rattle.witness_circuits.proofs.AgreeLaws.{HaveSame, after_step-alike, alike-itself, literals-alike}
use Rattle.witness_circuits.proofs.CarrierLaws.{bad-within}
use Rattle.witness_circuits.proofs.PlaceLaws.{first-place, length-first_places, place-first}
use Rattle.map_miters.specs.Holding.{reset_at, reset_state}
use Rattle.map_miters.specs.Questions.{Begins, IsAskable}
use Rattle.aig_graph.proofs.PropsLaws.{properties-within}
use Rattle.aig_graph.proofs.FreeLaws.{free-where}
use Rattle.map_miters.specs.declared.goals.Goal.TheVariants.{Agree, Mapped}
use Rattle.map_miters.specs.Laws.{MeetsQuestions}
use Rattle.map_miters.specs.Products.{HoldsMapped, IsProduct, StartsAlike, product_resets, second_state, start_resets}
use Rattle.map_miters.proofs.LeafLaws.{length-resets}

abbrev of_latches : List Latch → List Reset
of_latches latches = map (λ latch. latch.reset) latches

one-more : (b : Bool) (n : ℕ) → b ≡ true → 0 < cond {A = ℕ} b 1 0 + n
one-more true n e = omega arith
one-more false n e = absurd (cc)

no-less : (b : Bool) (n : ℕ) → 0 < n → 0 < cond {A = ℕ} b 1 0 + n
no-less true n h = omega arith
no-less false n h = omega (arith, h)

some-free : (latches : List Latch) (j : ℕ) (latch : Latch) → slice_get latches j ≡ Some latch → is_free latch ≡ true → 0 < count_by is_free latches
some-free [] j latch there free = absurd (none-some latch there)
some-free (l ∷ ls) zero latch there free =
    subst (λ (n : ℕ). 0 < n) (sym (count_by-cons is_free l ls)) (one-more (is_free l) (count_by is_free ls) (ap is_free (same_Some l latch there) ∙ free))
some-free (l ∷ ls) (suc j) latch there free = subst (λ (n : ℕ). 0 < n) (sym (count_by-cons is_free l ls)) (no-less (is_free l) (count_by is_free ls) (some-free ls j latch there free))

same-truth : (a b : Bool) → (a ≡ true → b ≡ true) → (b ≡ true → a ≡ true) → a ≡ b
same-truth true b f g = sym (f refl)
same-truth false true f g = g refl
same-truth false false f g = refl

module _ (c d m p w : Netlist) (first_graph : IsGraph c.aig) (second_graph : IsGraph d.aig) (second_net : IsNetlist d) (map_graph : IsGraph m.aig) (map_net : IsNetlist m) (model_graph : IsGraph p.aig)
    (graph : IsGraph w.aig) (net : IsNetlist w) (askable : IsAskable c d m) (meets : MeetsQuestions c d m) (model : IsProduct Agree c d m p) (machine : IsProduct Mapped c d m w) where
  abbrev n : ℕ
  n = length c.aig.latches

  abbrev k : ℕ
  k = length d.aig.latches

  abbrev all : ℕ
  all = length w.aig.latches

  tied-same : machine.tied ≡ model.tied
  tied-same = same-truth machine.tied model.tied (λ e. model.ties.1 (machine.ties.0 e)) (λ e. machine.ties.1 (model.ties.0 e))

  resets-same : of_latches p.aig.latches ≡ of_latches w.aig.latches
  resets-same = model.beside.resets ∙ ap (product_resets c.aig d.aig) (sym tied-same) ∙ sym machine.beside.resets

  long : length p.aig.latches ≡ length w.aig.latches
  long = sym (length-map p.aig.latches (λ l. l.reset)) ∙ ap (λ rs. length rs) resets-same ∙ length-map w.aig.latches (λ l. l.reset)

  many : all ≡ n + k + length (start_resets machine.tied)
  many = sym (length-map w.aig.latches (λ l. l.reset)) ∙ ap (λ rs. length rs) machine.beside.resets ∙ length-resets c.aig d.aig machine.tied

  wide : w.aig.inputs ≡ p.aig.inputs
  wide = machine.beside.inputs ∙ sym model.beside.inputs

  -- ---- what is shared is all
  module _ (x y : Digits) (s t : State) (joint : AreJoint (first_shared p w) x s y t) where
    joint-latch : (j : ℕ) → j < all → t j ≡ s j
    joint-latch j less = joint.1 j j (first-place (length p.aig.latches) all j (omega (arith, less, long)))

    same-leaves : HaveSame w.aig x y s t
    same-leaves = record { inputs = λ i less. joint.0 i i (first-place p.aig.inputs w.aig.inputs i (omega (arith, less, wide))); latches = joint-latch }

    allowed-same : map (value_within w.aig y t) w.props.constraints ≡ map (value_within w.aig x s) w.props.constraints
    allowed-same = literals-alike w.aig w.aig graph graph (alike-itself w.aig) x y s t same-leaves w.props.constraints net.props.constraints

    good-same : map (value_within w.aig y t) (bad_states w.props) ≡ map (value_within w.aig x s) (bad_states w.props)
    good-same = literals-alike w.aig w.aig graph graph (alike-itself w.aig) x y s t same-leaves (bad_states w.props) (bad-within w net)

    after-same : after_step w.aig y t ≡ after_step w.aig x s
    after-same = after_step-alike w.aig graph x y s t same-leaves

    allowed-there : IsAllowed p x s → IsAllowed w y t
    allowed-there h =
        let here : IsAllowed w x s = (machine.allowed x s).1 (subst (λ (b : Bool). StartsAlike c d m b s) (sym tied-same) ((model.allowed x s).0 h)) in
        subst (λ (bs : List Bool). All (λ b. b ≡ true) bs) (sym allowed-same) here

    good-there : IsGood w y t → HoldsMapped c d m s
    good-there h = (machine.good x s).0 (subst (λ (bs : List Bool). All (λ b. b ≡ false) bs) good-same h)

  -- ---- the map reads the latches of c alone
  abbrev SameFirst : State → State → Type 0
  SameFirst s u = (j : ℕ) → j < n → u j ≡ s j

  image-same : (s u : State) (lits : List ℕ) → SameFirst s u → AreLiteralsOf m.aig lits → image m.aig u lits ≡ image m.aig s lits
  image-same s u lits same within =
      literals-alike m.aig m.aig map_graph map_graph (alike-itself m.aig) s u (λ j. false) (λ j. false) (record { inputs = λ i less. same i (omega (arith, less, askable.inputs)); latches = λ j less. refl }) lits within

  kept-same : (s u : State) → SameFirst s u → is_kept m s → is_kept m u
  kept-same s u same here = subst (λ (bs : List Bool). All (λ b. b ≡ true) bs) (sym (image-same s u m.props.constraints same map_net.props.constraints)) here

  mapped-same : (s u : State) → SameFirst s u → mapped m u ≡ mapped m s
  mapped-same s u same = ap (λ (bs : List Bool). λ (j : ℕ). get_or bs j false) (image-same s u m.props.outputs same map_net.props.outputs)

  -- ---- steps
  steps-same : (x : Digits) (s : State) (j : ℕ) → j < all → after_step w.aig x s j ≡ after_step p.aig x s j
  steps-same x s j less = elim (cases_lt j n) [
    | inl low ↦ machine.beside.first x s j low ∙ sym (model.beside.first x s j low)
    | inr past ↦ elim (cases_lt (j - n) k) [
      | inl middle ↦ (
          let at : j ≡ n + (j - n) = omega (arith, past) in
          ap (after_step w.aig x s) at ∙ machine.beside.second x s (j - n) middle ∙ sym (ap (after_step p.aig x s) at ∙ model.beside.second x s (j - n) middle))
      | inr high ↦ last machine.tied refl (omega (arith, past, high)) less
    ]
  ]
    where
      last : (b : Bool) → machine.tied ≡ b → n + k ≤ j → j < all → after_step w.aig x s j ≡ after_step p.aig x s j
      last true told beyond less =
          let one : length (start_resets machine.tied) ≡ 1 = ap (λ (b : Bool). length (start_resets b)) told in
          let at : j ≡ n + k = omega (arith, beyond, less, many, one) in
          ap (after_step w.aig x s) at ∙ machine.beside.started told x s ∙ sym (ap (after_step p.aig x s) at ∙ model.beside.started (sym tied-same ∙ told) x s)
      last false told beyond less =
          let none : length (start_resets machine.tied) ≡ 0 = ap (λ (b : Bool). length (start_resets b)) told in
          absurd (omega (arith, beyond, less, many, none))

  -- ---- resets
  reset-of : (j : ℕ) (reset : Reset) (latch : Latch) → slice_get (product_resets c.aig d.aig machine.tied) j ≡ Some reset → slice_get w.aig.latches j ≡ Some latch → latch.reset ≡ reset
  reset-of j reset latch wanted there =
      same_Some latch.reset reset (sym (slice_get-map_some (λ (l : Latch). l.reset) w.aig.latches j latch there) ∙ ap (λ (rs : List Reset). slice_get rs j) machine.beside.resets ∙ wanted)

  first-reset : (j : ℕ) (own : Latch) → slice_get c.aig.latches j ≡ Some own → slice_get (product_resets c.aig d.aig machine.tied) j ≡ Some own.reset
  first-reset j own there =
      slice_get-append_left (of_latches c.aig.latches ++ of_latches d.aig.latches) (start_resets machine.tied) j own.reset
      (slice_get-append_left (of_latches c.aig.latches) (of_latches d.aig.latches) j own.reset (slice_get-map_some (λ (l : Latch). l.reset) c.aig.latches j own there))

  second-reset : (j : ℕ) (own : Latch) → slice_get d.aig.latches j ≡ Some own → slice_get (product_resets c.aig d.aig machine.tied) (n + j) ≡ Some own.reset
  second-reset j own there =
      let of_first : length (of_latches c.aig.latches) ≡ n = length-map c.aig.latches (λ l. l.reset) in
      let at : n + j ≡ length (of_latches c.aig.latches) + j = omega (arith, of_first) in
      slice_get-append_left (of_latches c.aig.latches ++ of_latches d.aig.latches) (start_resets machine.tied) (n + j) own.reset
      (ap (slice_get (of_latches c.aig.latches ++ of_latches d.aig.latches)) at ∙ slice_get-append_right (of_latches c.aig.latches) (of_latches d.aig.latches) j
      ∙ slice_get-map_some (λ (l : Latch). l.reset) d.aig.latches j own there)

  start-reset : machine.tied ≡ true → slice_get (product_resets c.aig d.aig machine.tied) (n + k) ≡ Some Zero
  start-reset told =
      let both : List Reset = of_latches c.aig.latches ++ of_latches d.aig.latches in
      let as_many : length (of_latches c.aig.latches ++ of_latches d.aig.latches) ≡ n + k =
      omega (arith, length-append (of_latches c.aig.latches) (of_latches d.aig.latches), length-map c.aig.latches (λ (l : Latch). l.reset), length-map d.aig.latches (λ (l : Latch). l.reset)) in
      let at : n + k ≡ length (of_latches c.aig.latches ++ of_latches d.aig.latches) + 0 = omega (arith, as_many) in
      ap (slice_get (both ++ start_resets machine.tied)) at ∙ slice_get-append_right both (start_resets machine.tied) 0 ∙ ap (λ (b : Bool). slice_get (start_resets b) 0) told

  opens-as : (f : Choice) (j : ℕ) (reset : Reset) → slice_get (product_resets c.aig d.aig machine.tied) j ≡ Some reset → j < all → opening_state w.aig f j ≡ opening reset (f (free_before w.aig j))
  opens-as f j reset wanted less =
      let there = element w.aig.latches j less in
      ap (opening_at w.aig f j) there.1 ∙ ap (λ (r : Reset). opening r (f (free_before w.aig j))) (reset-of j reset there.0 wanted there.1)

  -- ---- a first state of w
  module _ (f : Choice) (y : Digits) (allowed : IsAllowed w y (opening_state w.aig f)) where
    abbrev o : State
    o = opening_state w.aig f

    first-same : SameFirst (reset_state c.aig o) o
    first-same j less =
        let own = element c.aig.latches j less in
        let opened : o j ≡ opening own.0.reset (f (free_before w.aig j)) = opens-as f j own.0.reset (first-reset j own.0 own.1) (omega (arith, less, many)) in
        opened ∙ sym (opening-twice own.0.reset (f (free_before w.aig j))) ∙ ap (opening own.0.reset) (sym opened) ∙ sym (ap (reset_at (o j)) own.1)

    starts : Begins c d m o
    starts = meets.reset o

    base-kept : is_kept m o
    base-kept = kept-same (reset_state c.aig o) o first-same starts.kept

    base-latch : (j : ℕ) → j < k → mapped m o j ≡ second_state c.aig o j
    base-latch j less =
        let own = element d.aig.latches j less in
        let at : mapped m o ≡ mapped m (reset_state c.aig o) = mapped-same (reset_state c.aig o) o first-same in
        let known : opening own.0.reset (mapped m o j) ≡ mapped m o j = subst (λ (t : State). opening own.0.reset (t j) ≡ t j) (sym at) (starts.first j own.0 own.1) in
        let opened : o (n + j) ≡ opening own.0.reset (f (free_before w.aig (n + j))) = opens-as f (n + j) own.0.reset (second-reset j own.0 own.1) (omega (arith, less, many)) in
        sym (opened ∙ opening-known own.0.reset (f (free_before w.aig (n + j))) (mapped m o j) (λ e. sym (ap (λ (r : Reset). opening r (f (free_before w.aig (n + j)))) e) ∙ sym opened ∙ free-latch own.0 own.1 e) known)
      where
        free-latch : (own : Latch) → slice_get d.aig.latches j ≡ Some own → own.reset ≡ Free → o (n + j) ≡ mapped m o j
        free-latch own there e =
            let free : is_free own ≡ true = free-where own e in
            let some : 0 < free_latches d.aig = subst (λ (ls : List Latch). 0 < count_by is_free ls) (sym (take-length d.aig.latches)) (some-free d.aig.latches j own there free) in
            let told : machine.tied ≡ true = machine.ties.1 (record { some = some; stay = starts.free }) in
            let one : length (start_resets machine.tied) ≡ 1 = ap (λ (b : Bool). length (start_resets b)) told in
            let zero_first : o (n + k) ≡ false = opens-as f (n + k) Zero (start-reset told) (omega (arith, one, many)) in
            (machine.allowed y o).0 allowed told zero_first j (ap is_free_latch there ∙ free)

    base : IsGood w y o
    base = (machine.good y o).1 (base-kept, base-latch)

  -- ---- a step keeps a state good
  module _ (y later : Digits) (t : State) (good : IsGood w y t) where
    abbrev v : State
    v = after_step w.aig y t

    holds : HoldsMapped c d m t
    holds = (machine.good y t).0 good

    goes-first : SameFirst (after_step c.aig y t) v
    goes-first j less = machine.beside.first y t j less

    mapped-there : after_step d.aig y (mapped m t) ≡ after_step d.aig y (second_state c.aig t)
    mapped-there = after_step-alike d.aig second_graph y y (second_state c.aig t) (mapped m t) (record { inputs = λ i less. refl; latches = λ j less. holds.1 j less })

    step : IsGood w later v
    step = (machine.good later v).1 (
      kept-same (after_step c.aig y t) v goes-first (meets.keep y t holds.0),
      λ j less.
          ap (λ (u : State). u j) (mapped-same (after_step c.aig y t) v goes-first) ∙ meets.next y t holds.0 j less ∙ ap (λ (u : State). u j) mapped-there
          ∙ sym (machine.beside.second y t j less),
    )

  -- ---- a good state is one in which both agree
  property : (x y : Digits) (s t : State) → AreJoint (first_shared p w) x s y t → IsGood w y t → IsGood p x s
  property x y s t joint good =
      let holds : HoldsMapped c d m s = good-there x y s t joint good in
      let same : map (value_within d.aig x (mapped m s)) (property_literals d.props) ≡ map (value_within d.aig x (second_state c.aig s)) (property_literals d.props) =
      literals-alike d.aig d.aig second_graph second_graph (alike-itself d.aig) x x (second_state c.aig s) (mapped m s) (record { inputs = λ i less. refl; latches = λ j less. holds.1 j less })
      (property_literals d.props) (properties-within d second_net) in
      (model.good x s).1 (sym same ∙ meets.read x s holds.0)

  -- ---- what is shared starts and goes on alike
  reset : (f : Choice) (x y : Digits) (t : State) → AreJoint (first_shared p w) x (opening_state p.aig f) y t → HasResets w (first_places (length p.aig.latches) all) t
  reset f x y t joint j place latch e there =
      let less : j < all = slice_get_within w.aig.latches j latch there in
      let own = element p.aig.latches j (omega (arith, less, long)) in
      let alike : own.0.reset ≡ latch.reset =
      same_Some own.0.reset latch.reset (sym (slice_get-map_some (λ (l : Latch). l.reset) p.aig.latches j own.0 own.1) ∙ ap (λ (rs : List Reset). slice_get rs j) resets-same
      ∙ slice_get-map_some (λ (l : Latch). l.reset) w.aig.latches j latch there) in
      let held : t j ≡ opening latch.reset (f (free_before p.aig j)) =
      joint-latch x y (opening_state p.aig f) t joint j less ∙ ap (opening_at p.aig f j) own.1 ∙ ap (λ (r : Reset). opening r (f (free_before p.aig j))) alike in
      ap (opening latch.reset) held ∙ opening-twice latch.reset (f (free_before p.aig j)) ∙ sym held

  goes : (x later y y_later : Digits) (s t u : State) → AreJoint (first_shared p w) x s y t → AreJoint (first_shared p w) later (after_step p.aig x s) y_later u
      → GoesOn w (first_places (length p.aig.latches) all) y t u
  goes x later y y_later s t u joint after j place latch e there =
      let less : j < all = slice_get_within w.aig.latches j latch there in
      joint-latch later y_later (after_step p.aig x s) u after j less ∙ sym (steps-same x s j less)
      ∙ sym (ap (λ (v : State). v j) (after-same x y s t joint)) ∙ ap (next_value (value_within w.aig y t)) there

  -- the machine by the map shares all inputs and latches with the model, and passes the five checks
  pub shows-agreement : IsSharing p w (first_shared p w) × IsWitness p w (first_shared p w)
  shows-agreement = (
    record {
      inputs = length-first_places p.aig.inputs w.aig.inputs (omega (arith, wide));
      latches = length-first_places (length p.aig.latches) all (omega (arith, long));
      inputs_below = λ i place e. let at = place-first p.aig.inputs w.aig.inputs i place e in omega (arith, at.0, at.1);
      latches_below = λ j place e. let at = place-first (length p.aig.latches) all j place e in omega (arith, at.0, at.1);
    },
    record {
      reset = λ f x y t joint allowed. (reset f x y t joint, allowed-there x y (opening_state p.aig f) t joint allowed);
      transition = λ x later y y_later s t u joint after allowed allowed_later of_w. (goes x later y y_later s t u joint after, allowed-there later y_later (after_step p.aig x s) u after allowed_later);
      property = λ x y s t joint allowed of_w good. property x y s t joint good;
      base = λ f y allowed. base f y allowed;
      step = λ y later t good of_w allowed_later. step y later t good;
    },
  )
