-- A witness circuit that is lifted over a circuit whose first latches are a model's passes the five
-- checks for the model.
use Rattle.std.proofs.Common.{ℕ, ◌<◌, ◌≤◌, ◌≡◌, ◌↔◌, Bool, true, false, List, [], ◌∷◌, length, get_or, slice_get, Some, None, refl, arith, ap, sym, ◌∙◌, subst}
use Rattle.std.specs.List.{All}
use Rattle.std.proofs.lemmas.Option.{same_Some}
use Rattle.aig_graph.specs.declared.graph.Latch.{Latch}
use Rattle.aig_graph.specs.declared.graph.Reset.{Reset}
use Rattle.aig_graph.specs.Circuits.{AreLiteralsOf, Netlist, IsNetlist}
use Rattle.aig_graph.specs.Graph.{IsGraph, free_before}
use Rattle.aig_graph.specs.Value.{Choice, next_value, opening, opening_at, value_within}
use Rattle.aig_graph.proofs.KindLaws.{element}
use Rattle.state_maps.specs.States.{Digits, IsAllowed, State, after_step, opening_state}
use Rattle.state_maps.specs.MapCircuits.{image, is_kept, mapped}
use Rattle.witness_circuits.specs.declared.sharing.Sharing.{Sharing}
use Rattle.witness_circuits.specs.Joining.{own_at}
use Rattle.witness_circuits.specs.Witnesses.{AreJoint, Agree, GoesOn, HasResets, IsGood, IsSharing, IsWitness, bad_or, bad_states}
use Rattle.witness_circuits.proofs.JoiningLaws.{joined-agrees}
use Rattle.witness_circuits.proofs.OpeningLaws.{held_choice, opening-twice}
use Rattle.witness_circuits.proofs.RunLaws.{goes-joined, resets-open}
use Rattle.witness_circuits.specs.Lifting.{IsLiftedOver, GoesAs, in_circuit, in_witness, witness_digits, witness_state}
use Rattle.witness_circuits.specs.LiftedLaws.{first_places, first_shared}
use Rattle.witness_circuits.proofs.AgreeLaws.{HaveSame, after_step-alike, alike-itself, literals-alike}
use Rattle.witness_circuits.proofs.FirstLaws.{GoFirst, first-opens, first-steps, goes-through}
use Rattle.witness_circuits.proofs.PlaceLaws.{first-place, length-first_places, place-first}

-- the bad states of a netlist, or the outputs that stand for them, are literals of the graph
pub bad-within : (c : Netlist) → IsNetlist c → AreLiteralsOf c.aig (bad_states c.props)
bad-within c net = either c.props.bad net.props.bad
  where
    either : (bad : List ℕ) → AreLiteralsOf c.aig bad → AreLiteralsOf c.aig (bad_or bad c.props.outputs)
    either [] within = net.props.outputs
    either (x ∷ bad) within = within

-- a map reads its inputs alone
module _ (m : Netlist) (graph : IsGraph m.aig) (netlist : IsNetlist m) (s u : State) (same : (i : ℕ) → i < m.aig.inputs → u i ≡ s i) where
  image-alike : (lits : List ℕ) → AreLiteralsOf m.aig lits → image m.aig u lits ≡ image m.aig s lits
  image-alike lits within =
      literals-alike m.aig m.aig graph graph (alike-itself m.aig) s u (λ j. false) (λ j. false) (record { inputs = same; latches = λ j less. refl }) lits within

  -- its constraints hold of states that are alike
  pub kept-alike : is_kept m s → is_kept m u
  kept-alike here = subst (λ (bs : List Bool). All (λ b. b ≡ true) bs) (sym (image-alike m.props.constraints netlist.props.constraints)) here

  -- it gives equal values for them
  pub mapped-alike : mapped m u ≡ mapped m s
  mapped-alike = ap (λ (bs : List Bool). λ (j : ℕ). get_or bs j false) (image-alike m.props.outputs netlist.props.outputs)

-- A circuit with the inputs of a model c and, first among its latches, c's. A map gives the states
-- of d for those of its own in which the map's constraints hold.
pub record IsCarrier (c d b m : Netlist) : Type 0 where
  -- there are as many inputs
  pub inputs : b.aig.inputs ≡ c.aig.inputs
  -- there are as many latches, or more
  pub many : length c.aig.latches ≤ length b.aig.latches
  -- the first are c's
  pub first : GoFirst b.aig c
  -- the constraints are c's
  pub allowed : (z : Digits) (u : State) → IsAllowed b z u ↔ IsAllowed c z u
  -- the map is a graph
  pub graph : IsGraph m.aig
  -- its properties are literals of it
  pub netlist : IsNetlist m
  -- it reads the latches
  pub wide : m.aig.inputs ≡ length b.aig.latches
  -- for a first state the map's constraints hold, and it gives one of d
  pub begins : (f : Choice) → is_kept m (opening_state b.aig f) × ((g : Choice) × (mapped m (opening_state b.aig f) ≡ opening_state d.aig g))
  -- its constraints go on to hold
  pub keeps : (x : Digits) (s : State) → is_kept m s → is_kept m (after_step b.aig x s)
  -- a step is one of d
  pub steps : (x : Digits) (s : State) → is_kept m s → mapped m (after_step b.aig x s) ≡ after_step d.aig x (mapped m s)
  -- d's constraints hold if c's do
  pub allows : (x : Digits) (s : State) → is_kept m s → IsAllowed c x s → IsAllowed d x (mapped m s)
  -- c is good if d is
  pub shows : (x : Digits) (s : State) → is_kept m s → IsGood d x (mapped m s) → IsGood c x s

module _ (c d b m w : Netlist) (k : Sharing) (r : Netlist) (valid : IsGraph c.aig) (net : IsNetlist c) (carrier : IsCarrier c d b m) (sharing : IsSharing d w k) (passes : IsWitness d w k)
    (lifted : IsLiftedOver b m w k r) where
  abbrev n : ℕ
  n = length c.aig.latches

  abbrev nb : ℕ
  nb = length b.aig.latches

  abbrev sd : Digits → Digits
  sd z = witness_digits b k z

  abbrev ss : State → State
  ss u = witness_state b m k u

  -- what the witness reads are d's digits and state, if it shares them
  joint : (z : Digits) (u : State) → AreJoint k z (mapped m u) (sd z) (ss u)
  joint z u = (joined-agrees k.inputs z (λ i. z (own_at b.aig.inputs k.inputs i)), joined-agrees k.latches (mapped m u) (λ j. u (own_at nb k.latches j)))

  abbrev SameLatches : ℕ → State → State → Type 0
  SameLatches many s u = (j : ℕ) → j < many → u j ≡ s j

  -- ---- the map reads b's latches alone
  kept-same : (s u : State) → SameLatches nb s u → is_kept m s → is_kept m u
  kept-same s u same here = kept-alike m carrier.graph carrier.netlist s u (λ i less. same i (omega (arith, less, carrier.wide))) here

  mapped-same : (s u : State) → SameLatches nb s u → mapped m u ≡ mapped m s
  mapped-same s u same = mapped-alike m carrier.graph carrier.netlist s u (λ i less. same i (omega (arith, less, carrier.wide)))

  -- ---- steps of c
  module _ (x z : Digits) (s u : State) (inputs : (i : ℕ) → i < c.aig.inputs → z i ≡ x i) (latches : SameLatches n s u) where
    abbrev same-leaves : HaveSame c.aig x z s u
    same-leaves = record { inputs = inputs; latches = latches }

    allowed-here : IsAllowed c x s → IsAllowed c z u
    allowed-here h = subst (λ (bs : List Bool). All (λ b. b ≡ true) bs)
        (sym (literals-alike c.aig c.aig valid valid (alike-itself c.aig) x z s u same-leaves c.props.constraints net.props.constraints)) h

    good-there : IsGood c z u → IsGood c x s
    good-there h = subst (λ (bs : List Bool). All (λ b. b ≡ false) bs)
        (literals-alike c.aig c.aig valid valid (alike-itself c.aig) x z s u same-leaves (bad_states c.props) (bad-within c net)) h

    after-same : after_step c.aig z u ≡ after_step c.aig x s
    after-same = after_step-alike c.aig valid x z s u same-leaves

  -- ---- r has c's latches first, and c's constraints
  first-of_r : GoFirst r.aig c
  first-of_r = goes-through r.aig b c lifted.first carrier.first

  long-b : nb ≤ length r.aig.latches
  long-b = omega (arith, lifted.latches)

  long-c : n ≤ length r.aig.latches
  long-c = omega (arith, carrier.many, lifted.latches)

  to-allowed : (z : Digits) (u : State) → IsAllowed c z u → IsAllowed r z u
  to-allowed z u h = (lifted.allowed z u).1 ((carrier.allowed z u).1 h)

  from-allowed : (z : Digits) (u : State) → IsAllowed r z u → IsAllowed c z u
  from-allowed z u h = (carrier.allowed z u).0 ((lifted.allowed z u).0 h)

  -- ---- a step later
  later-kept : (z : Digits) (u v : State) → is_kept m u → SameLatches nb (after_step b.aig z u) v → is_kept m v
  later-kept z u v here same = kept-same (after_step b.aig z u) v same (carrier.keeps z u here)

  later-mapped : (z : Digits) (u v : State) → is_kept m u → SameLatches nb (after_step b.aig z u) v → mapped m v ≡ after_step d.aig z (mapped m u)
  later-mapped z u v here same = mapped-same (after_step b.aig z u) v same ∙ carrier.steps z u here

  later-witness : (z later : Digits) (u v : State) → is_kept m u → SameLatches nb (after_step b.aig z u) v → IsAllowed c z u → IsAllowed c later v → IsAllowed w (sd z) (ss u)
      → GoesOn w k.latches (sd z) (ss u) (ss v) × IsAllowed w (sd later) (ss v)
  later-witness z later u v here same allowed after of_w =
      let at : mapped m v ≡ after_step d.aig z (mapped m u) = later-mapped z u v here same in
      passes.transition z later (sd z) (sd later) (mapped m u) (ss u) (ss v) (joint z u) (subst (λ (s : State). AreJoint k later s (sd later) (ss v)) at (joint later v))
      (carrier.allows z u here allowed) (subst (λ (s : State). IsAllowed d later s) at (carrier.allows later v (later-kept z u v here same) after)) of_w

  -- ---- what is shared with r are c's inputs and latches
  inputs-joint : (x y : Digits) → Agree (first_places c.aig.inputs r.aig.inputs) x y → (i : ℕ) → i < c.aig.inputs → y i ≡ x i
  inputs-joint x y agrees i less = agrees i i (first-place c.aig.inputs r.aig.inputs i less)

  latches-joint : (s u : State) → Agree (first_places n (length r.aig.latches)) s u → SameLatches n s u
  latches-joint s u agrees j less = agrees j j (first-place n (length r.aig.latches) j less)

  -- ---- the five checks
  first-resets : (f : Choice) (u : State) → SameLatches n (opening_state c.aig f) u → HasResets r (first_places n (length r.aig.latches)) u
  first-resets f u same j place latch e there =
      let less : j < n = (place-first n (length r.aig.latches) j place e).1 in
      let own = element c.aig.latches j less in
      let goes : GoesAs r.aig j own.0 (in_circuit c) = first-of_r j own.0 own.1 in
      let reset : latch.reset ≡ own.0.reset = ap (λ (l : Latch). l.reset) (same_Some latch goes.is (sym there ∙ goes.there)) ∙ goes.reset in
      let held : u j ≡ opening own.0.reset (f (free_before c.aig j)) = same j less ∙ ap (opening_at c.aig f j) own.1 in
      ap (opening latch.reset) held ∙ ap (λ (x : Reset). opening x (opening own.0.reset (f (free_before c.aig j)))) reset
      ∙ opening-twice own.0.reset (f (free_before c.aig j)) ∙ sym held

  reset : (f : Choice) (x z : Digits) (u : State) → AreJoint (first_shared c r) x (opening_state c.aig f) z u → IsAllowed c x (opening_state c.aig f)
      → HasResets r (first_places n (length r.aig.latches)) u × IsAllowed r z u
  reset f x z u agrees allowed =
      let same = latches-joint (opening_state c.aig f) u agrees.1 in
      (first-resets f u same, to-allowed z u (allowed-here x z (opening_state c.aig f) u (inputs-joint x z agrees.0) same allowed))

  transition : (x later z z_later : Digits) (s u v : State) → AreJoint (first_shared c r) x s z u → AreJoint (first_shared c r) later (after_step c.aig x s) z_later v
      → IsAllowed c x s → IsAllowed c later (after_step c.aig x s) → IsAllowed r z u → GoesOn r (first_places n (length r.aig.latches)) z u v × IsAllowed r z_later v
  transition x later z z_later s u v agrees after allowed allowed_after of_r =
      let inputs = inputs-joint x z agrees.0 in
      let latches = latches-joint s u agrees.1 in
      let stepped : after_step c.aig z u ≡ after_step c.aig x s = after-same x z s u inputs latches in
      let next : SameLatches n (after_step c.aig x s) v = latches-joint (after_step c.aig x s) v after.1 in
      let same : SameLatches n (after_step c.aig z u) v = subst (λ (t : State). SameLatches n t v) (sym stepped) next in
      (goes z u v same, to-allowed z_later v (allowed-here later z_later (after_step c.aig x s) v (inputs-joint later z_later after.0) next allowed_after))
    where
      goes : (z : Digits) (u v : State) → SameLatches n (after_step c.aig z u) v → GoesOn r (first_places n (length r.aig.latches)) z u v
      goes z u v same j place latch e there =
          let less : j < n = (place-first n (length r.aig.latches) j place e).1 in
          same j less ∙ sym (first-steps r.aig c first-of_r long-c z u j less) ∙ ap (next_value (value_within r.aig z u)) there

  property : (x z : Digits) (s u : State) → AreJoint (first_shared c r) x s z u → IsAllowed c x s → IsAllowed r z u → IsGood r z u → IsGood c x s
  property x z s u agrees allowed of_r good =
      let inputs = inputs-joint x z agrees.0 in
      let latches = latches-joint s u agrees.1 in
      let parts = (lifted.good z u).0 good in
      let there : IsGood d z (mapped m u) = passes.property z (sd z) (mapped m u) (ss u) (joint z u) (carrier.allows z u parts.0 (from-allowed z u of_r)) parts.1 parts.2 in
      good-there x z s u inputs latches (carrier.shows z u parts.0 there)

  base : (f : Choice) (z : Digits) → IsAllowed r z (opening_state r.aig f) → IsGood r z (opening_state r.aig f)
  base f z of_r =
      let u : State = opening_state r.aig f in
      let same : SameLatches nb (opening_state b.aig f) u = λ j less. first-opens r.aig b lifted.first long-b f j less in
      let begins = carrier.begins f in
      let kept : is_kept m u = kept-same (opening_state b.aig f) u same begins.0 in
      let at : mapped m u ≡ opening_state d.aig begins.1.0 = mapped-same (opening_state b.aig f) u same ∙ begins.1.1 in
      let started : HasResets w k.latches (ss u) × IsAllowed w (sd z) (ss u) =
      passes.reset begins.1.0 z (sd z) (ss u) (subst (λ (s : State). AreJoint k z s (sd z) (ss u)) at (joint z u))
      (subst (λ (s : State). IsAllowed d z s) at (carrier.allows z u kept (from-allowed z u of_r))) in
      let opens = resets-open w k.latches (mapped m u) (λ j. u (own_at nb k.latches j)) sharing.latches started.0 (starts f) in
      let good : IsGood w (sd z) (opening_state w.aig (held_choice w.aig (ss u))) =
      passes.base (held_choice w.aig (ss u)) (sd z) (subst (λ (t : State). IsAllowed w (sd z) t) (sym opens) started.1) in
      (lifted.good z u).1 (kept, started.1, subst (λ (t : State). IsGood w (sd z) t) opens good)
    where
      starts : (f : Choice) (j : ℕ) (latch : Latch) → slice_get k.latches j ≡ Some None → slice_get w.aig.latches j ≡ Some latch
          → opening latch.reset (opening_state r.aig f (own_at nb k.latches j)) ≡ opening_state r.aig f (own_at nb k.latches j)
      starts f j latch e there =
          let at : ℕ = own_at nb k.latches j in
          let goes : GoesAs r.aig at latch (in_witness b m w k) = lifted.own j latch e there in
          let held : opening_state r.aig f at ≡ opening latch.reset (f (free_before r.aig at)) =
          ap (opening_at r.aig f at) goes.there ∙ ap (λ (x : Reset). opening x (f (free_before r.aig at))) goes.reset in
          ap (opening latch.reset) held ∙ opening-twice latch.reset (f (free_before r.aig at)) ∙ sym held

  step : (z later : Digits) (u : State) → IsGood r z u → IsAllowed r z u → IsAllowed r later (after_step r.aig z u) → IsGood r later (after_step r.aig z u)
  step z later u good of_r after =
      let v : State = after_step r.aig z u in
      let same : SameLatches nb (after_step b.aig z u) v = λ j less. first-steps r.aig b lifted.first long-b z u j less in
      let parts = (lifted.good z u).0 good in
      let goes = later-witness z later u v parts.0 same (from-allowed z u of_r) (from-allowed later v after) parts.1 in
      let is_after : ss v ≡ after_step w.aig (sd z) (ss u) =
      goes-joined w k.latches (sd z) (ss u) (mapped m v) (λ j. v (own_at nb k.latches j)) sharing.latches goes.0 (follows z u) in
      let stays : IsGood w (sd later) (after_step w.aig (sd z) (ss u)) =
      passes.step (sd z) (sd later) (ss u) parts.2 parts.1 (subst (λ (t : State). IsAllowed w (sd later) t) is_after goes.1) in
      (lifted.good later v).1 (later-kept z u v parts.0 same, goes.1, subst (λ (t : State). IsGood w (sd later) t) (sym is_after) stays)
    where
      follows : (z : Digits) (u : State) (j : ℕ) (latch : Latch) → slice_get k.latches j ≡ Some None → slice_get w.aig.latches j ≡ Some latch
          → after_step r.aig z u (own_at nb k.latches j) ≡ value_within w.aig (sd z) (ss u) latch.next
      follows z u j latch e there =
          let goes : GoesAs r.aig (own_at nb k.latches j) latch (in_witness b m w k) = lifted.own j latch e there in
          ap (next_value (value_within r.aig z u)) goes.there ∙ goes.next z u

  -- the lifted witness passes the five checks for the model, of which all inputs and latches are
  -- shared
  pub witness-carried : IsWitness c r (first_shared c r)
  witness-carried = record { reset = reset; transition = transition; property = property; base = base; step = step }

  -- the places of the first inputs and latches, which the lifted witness shares, are those of the
  -- model
  pub sharing-carried : IsSharing c r (first_shared c r)
  sharing-carried = record {
    inputs = length-first_places c.aig.inputs r.aig.inputs (omega (arith, lifted.inputs, carrier.inputs));
    latches = length-first_places n (length r.aig.latches) (omega (arith, long-c));
    inputs_below = λ i place e. let at = place-first c.aig.inputs r.aig.inputs i place e in omega (arith, at.0, at.1);
    latches_below = λ j place e. let at = place-first n (length r.aig.latches) j place e in omega (arith, at.0, at.1);
  }
