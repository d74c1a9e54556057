-- State maps: of a move, one after another, and what comes back through them.
use Rattle.std.proofs.Common.{ℕ, ◌+◌, ◌*◌, ◌<◌, ◌≡◌, suc, zero, map, Bool, true, false, Option, Some, None, slice_get, get_or, List, ◌++◌, refl, arith, ap, sym, ◌∙◌, subst}
use Rattle.std.specs.List.{All, flat_map}
use Rattle.std.proofs.lemmas.List.{get_or-map, map-append}
use Rattle.aig_graph.proofs.PropsLaws.{flat-map_map, of_literals}
use Rattle.aig_graph.proofs.StreamLaws.{value-same, funext}
use Rattle.aig_graph.proofs.ValueLaws.{value_laws}
use Rattle.aig_graph.specs.Circuits.{Netlist}
use Rattle.aig_graph.specs.Closed.{IsClosedSet}
use Rattle.aig_graph.specs.Graph.{Graph, IsGraph, first_latch, free_latches, variables_end}
use Rattle.aig_graph.specs.Laws.{ValueLaws, all_free, composed}
use Rattle.aig_graph.specs.Mapped.{OfProps, mapped_props}
use Rattle.aig_graph.specs.Move.{Move}
use Rattle.aig_graph.specs.Streams.{chosen, property_literals}
use Rattle.aig_graph.specs.Value.{Choice, Inputs, latch_value, next_value, opening_at, value, value_within}
use Rattle.aig_graph.specs.declared.graph.Latch.{Latch}
use Rattle.aig_graph.specs.declared.properties.Props.{Props}
use Rattle.rebuild.proofs.BorderLaws.{closed-passable, new_variable-latched}
use Rattle.rebuild.proofs.MovedLaws.{IsGraph-moved, moved-first_latch}
use Rattle.rebuild.proofs.ReadLaws.{IsReadable, all-readable}
use Rattle.rebuild.proofs.StreamLaws.{latched-start}
use Rattle.rebuild.specs.Moved.{is_latched, latch_for, moved_graph, moved_literal, moved_of, new_variable}
use Rattle.aig_graph.proofs.ListLaws.{map-map, map-same, slice_get-map_some, slice_get-map_none}
use Rattle.aig_graph.proofs.PlacesLaws.{Ranks, rank_at}
use Rattle.aig_graph.specs.Counting.{places}
use Rattle.state_maps.specs.States.{Digits, IsAllowed, IsStateMap, SameReads, State, after_step, opening_state}
use Rattle.state_maps.specs.MovedStates.{held_value, moved_state}
use Rattle.state_maps.specs.Laws.{InvariantsComeBack, MapsCompose, MapsGiveStreams, MovingMaps}
use Rattle.state_maps.proofs.MoveStepLaws.{moved_literal-value, next_latched-value}

-- properties that are mapped have the values that they had, if each literal does
module _ (f : ℕ → ℕ) (P : ℕ → Type 0) (after before : ℕ → Bool) (same : (lit : ℕ) → P lit → after (f lit) ≡ before lit) where
  mapped-list : (lits : List ℕ) → All P lits → map after (map f lits) ≡ map before lits
  mapped-list lits all = map-map after f lits ∙ map-same P (λ lit. after (f lit)) before same lits all

  mapped-lists : (lists : List (List ℕ)) → All (λ lits. All P lits) lists → map (map after) (map (map f) lists) ≡ map (map before) lists
  mapped-lists lists all =
      map-map (map after) (map f) lists ∙ map-same (λ lits. All P lits) (λ (lits : List ℕ). map after (map f lits)) (map before) mapped-list lists all

-- properties whose literals have their values under a new number read alike
pub mapped-reads : (f : ℕ → ℕ) (P : ℕ → Type 0) (c d : Netlist) (x : Digits) (s t : State) → d.props ≡ mapped_props f c.props → OfProps P c.props
    → ((lit : ℕ) → P lit → value_within d.aig x t (f lit) ≡ value_within c.aig x s lit) → SameReads c d x s t
unfolding mapped_props
mapped-reads f P c d x s t props each same =
    let after : ℕ → Bool = value_within d.aig x t in
    let before : ℕ → Bool = value_within c.aig x s in
    record {
      outputs = ap (λ (p : Props). map after p.outputs) props ∙ mapped-list f P after before same c.props.outputs each.outputs;
      bad = ap (λ (p : Props). map after p.bad) props ∙ mapped-list f P after before same c.props.bad each.bad;
      constraints = ap (λ (p : Props). map after p.constraints) props ∙ mapped-list f P after before same c.props.constraints each.constraints;
      justice = ap (λ (p : Props). map (map after) p.justice) props ∙ mapped-lists f P after before same c.props.justice each.justice;
      fairness = ap (λ (p : Props). map after p.fairness) props ∙ mapped-list f P after before same c.props.fairness each.fairness;
    }

module _ (m : Move) (valid : IsGraph m.circuit.aig) (set : IsClosedSet m.circuit.aig m.held m.set) (moved : IsGraph (moved_graph m)) where
  abbrev end : ℕ
  end = variables_end m.circuit.aig

  latch-none : (j : ℕ) → slice_get (places (is_latched m) end) j ≡ None → slice_get (moved_graph m).latches j ≡ None
  unfolding moved_graph
  latch-none j e = slice_get-map_none (latch_for m) (places (is_latched m) end) j e

  latch-some : (j v : ℕ) → slice_get (places (is_latched m) end) j ≡ Some v → slice_get (moved_graph m).latches j ≡ Some (latch_for m v)
  unfolding moved_graph
  latch-some j v e = slice_get-map_some (latch_for m) (places (is_latched m) end) j v e

  step-at : (x : Digits) (s : State) (j : ℕ) → moved_state m (after_step m.circuit.aig x s) j ≡ after_step (moved_graph m) x (moved_state m s) j
  step-at x s j = go (slice_get (places (is_latched m) end) j) refl
    where
      go : (o : Option ℕ) → slice_get (places (is_latched m) end) j ≡ o → moved_state m (after_step m.circuit.aig x s) j ≡ after_step (moved_graph m) x (moved_state m s) j
      go None e =
          ap (held_value m.circuit.aig (after_step m.circuit.aig x s)) e
          ∙ sym (ap (next_value (value_within (moved_graph m) x (moved_state m s))) (latch-none j e))
      go (Some v) e =
          let r : Ranks (is_latched m) end j v = rank_at (is_latched m) end j v e in
          ap (held_value m.circuit.aig (after_step m.circuit.aig x s)) e
          ∙ sym (next_latched-value m valid set moved x s v r.passes)
          ∙ sym (ap (next_value (value_within (moved_graph m) x (moved_state m s))) (latch-some j v e))

  -- at the start, by the values of the first step
  start-at : (f : Choice) (j : ℕ) → moved_state m (opening_state m.circuit.aig f) j ≡ opening_state (moved_graph m) (chosen (all_free m.circuit.aig) f) j
  unfolding value latch_value
  start-at f j = go (slice_get (places (is_latched m) end) j) refl
    where
      go : (o : Option ℕ) → slice_get (places (is_latched m) end) j ≡ o → moved_state m (opening_state m.circuit.aig f) j ≡ opening_state (moved_graph m) (chosen (all_free m.circuit.aig) f) j
      go None e =
          ap (held_value m.circuit.aig (opening_state m.circuit.aig f)) e
          ∙ sym (ap (opening_at (moved_graph m) (chosen (all_free m.circuit.aig) f) j) (latch-none j e))
      go (Some v) e =
          let x : Inputs = λ t i. false in
          let r : Ranks (is_latched m) end j v = rank_at (is_latched m) end j v e in
          let laws : ValueLaws (moved_graph m) x (chosen (all_free m.circuit.aig) f) = value_laws (moved_graph m) moved x (chosen (all_free m.circuit.aig) f) in
          let place : 2 * new_variable m v ≡ 2 * (first_latch (moved_graph m) + j) = omega (arith, new_variable-latched m (closed-passable m set.closed) v r.passes, moved-first_latch m, r.rank) in
          ap (held_value m.circuit.aig (opening_state m.circuit.aig f)) e
          ∙ sym (latched-start m valid set moved x f v r.below r.passes)
          ∙ ap (value (moved_graph m) x (chosen (all_free m.circuit.aig) f) 0) place
          ∙ laws.latch_at_start j (latch_for m v) (latch-some j v e)
          ∙ sym (ap (opening_at (moved_graph m) (chosen (all_free m.circuit.aig) f) j) (latch-some j v e))

-- a move maps states, whatever holds
pub moving-maps : (m : Move) → MovingMaps m
moving-maps m valid netlist set room =
    let moved : IsGraph (moved_graph m) = IsGraph-moved m valid set room in
    record {
      holds_first = λ f. tt;
      first = λ f. funext _ _ (start-at m valid set moved f);
      keeps = λ x s holds. tt;
      steps = λ x s holds. funext _ _ (step-at m valid set moved x s);
      reads = λ x s holds. mapped-reads (moved_literal m) (λ lit. IsReadable m lit) m.circuit (moved_of m) x s (moved_state m s) refl
          (of_literals (λ lit. IsReadable m lit) m.circuit.props (all-readable m netlist)) (moved_literal-value m valid set moved x s);
    }

-- what latches hold at step 0 rests on the choices for the free ones alone
pub opening-same : (g : Graph) → IsGraph g → (f h : Choice) → ((j : ℕ) → j < free_latches g → f j ≡ h j) → opening_state g f ≡ opening_state g h
opening-same g valid f h same = funext _ _ at
  where
    x : Inputs
    x = λ t i. false

    at : (j : ℕ) → opening_state g f j ≡ opening_state g h j
    at j = go (slice_get g.latches j) refl
      where
        go : (o : Option Latch) → slice_get g.latches j ≡ o → opening_state g f j ≡ opening_state g h j
        go None e = ap (opening_at g f j) e ∙ sym (ap (opening_at g h j) e)
        go (Some latch) e =
            ap (opening_at g f j) e
            ∙ sym ((value_laws g valid x f).latch_at_start j latch e)
            ∙ value-same g x f h same 0 (2 * (first_latch g + j))
            ∙ (value_laws g valid x h).latch_at_start j latch e
            ∙ sym (ap (opening_at g h j) e)

-- reading alike, one after another
pub reads-transitive : (c d e : Netlist) (x : Digits) (s t u : State) → SameReads c d x s t → SameReads d e x t u → SameReads c e x s u
reads-transitive c d e x s t u p q = record {
  outputs = q.outputs ∙ p.outputs;
  bad = q.bad ∙ p.bad;
  constraints = q.constraints ∙ p.constraints;
  justice = q.justice ∙ p.justice;
  fairness = q.fairness ∙ p.fairness;
}

-- one map after another is a map
pub maps-compose : (c d e : Netlist) (kept left : List ℕ) (one two : State → Type 0) (to on : State → State) → MapsCompose c d e kept left one two to on
maps-compose c d e kept left one two to on valid places p q = record {
  holds_first = λ f. (p.holds_first f, subst two (sym (p.first f)) (q.holds_first (chosen kept f)));
  first = λ f.
      let at : (j : ℕ) → j < free_latches e.aig → chosen left (chosen kept f) j ≡ chosen (composed kept left) f j =
      λ j h. ap f (sym (get_or-map (λ i. get_or kept i 0) left j 0 0 (omega (arith, places.each)))) in
      ap on (p.first f) ∙ q.first (chosen kept f) ∙ opening-same e.aig valid (chosen left (chosen kept f)) (chosen (composed kept left) f) at;
  keeps = λ x s both. (p.keeps x s both.0, subst two (sym (p.steps x s both.0)) (q.keeps x (to s) both.1));
  steps = λ x s both. ap on (p.steps x s both.0) ∙ q.steps x (to s) both.1;
  reads = λ x s both. reads-transitive c d e x s (to s) (on (to s)) (p.reads x s both.0) (q.reads x (to s) both.1);
}

-- an invariant of the mapped circuit is one of the circuit, read through the map
pub invariants-come_back : (c d : Netlist) (kept : List ℕ) (holds : State → Type 0) (to : State → State) (inside : State → Type 0) → InvariantsComeBack c d kept holds to inside
invariants-come_back c d kept holds to inside p q = record {
  first = λ f. (p.holds_first f, subst inside (sym (p.first f)) (q.first (chosen kept f)));
  keeps = λ x s both allowed. (p.keeps x s both.0, subst inside (sym (p.steps x s both.0)) (q.keeps x (to s) both.1 (allowed-there x s both.0 allowed)));
  safe = λ x s both allowed.
      let P : List Bool → Type 0 = λ bs. All (λ b. b ≡ false) bs in
      subst P (p.reads x s both.0).bad (q.safe x (to s) both.1 (allowed-there x s both.0 allowed));
}
  where
    allowed-there : (x : Digits) (s : State) → holds s → IsAllowed c x s → IsAllowed d x (to s)
    allowed-there x s here allowed = let P : List Bool → Type 0 = λ bs. All (λ b. b ≡ true) bs in subst P (sym (p.reads x s here).constraints) allowed

-- the values of all properties, from those of each kind
literals-read : (p : Props) (a : ℕ → Bool) → map a (property_literals p) ≡ map a p.outputs ++ map a p.bad ++ map a p.constraints ++ flat_map (λ bs. bs) (map (map a) p.justice) ++ map a p.fairness
literals-read p a =
    let flat = flat_map (λ (lits : List ℕ). lits) p.justice in
    let e = flat-map_map a p.justice in
    let e1 = map-append a p.outputs p.bad in
    let e2 = map-append a (p.outputs ++ p.bad) p.constraints in
    let e3 = map-append a (p.outputs ++ p.bad ++ p.constraints) flat in
    let e4 = map-append a (p.outputs ++ p.bad ++ p.constraints ++ flat) p.fairness in
    cc

-- all properties have equal values if those of each kind have
pub all-read : (c d : Netlist) (x : Digits) (s t : State) → SameReads c d x s t
    → map (value_within d.aig x t) (property_literals d.props) ≡ map (value_within c.aig x s) (property_literals c.props)
all-read c d x s t same =
    let one = literals-read d.props (value_within d.aig x t) in
    let two = literals-read c.props (value_within c.aig x s) in
    let outputs = same.outputs in
    let bad = same.bad in
    let constraints = same.constraints in
    let justice = same.justice in
    let fairness = same.fairness in
    cc

module _ (c d : Netlist) (kept : List ℕ) (holds : State → Type 0) (to : State → State) (p : IsStateMap c d kept holds to) (x : Inputs) (f : Choice) where
  -- step by step the state of d is the one that the map gives
  along : (t : ℕ) → holds (latch_value c.aig x f t) × (to (latch_value c.aig x f t) ≡ latch_value d.aig x (chosen kept f) t)
  unfolding latch_value
  along zero = (p.holds_first f, p.first f)
  along (suc t) =
      let now = along t in
      (p.keeps (x t) (latch_value c.aig x f t) now.0, p.steps (x t) (latch_value c.aig x f t) now.0 ∙ ap (after_step d.aig (x t)) now.1)

  same-values : (t : ℕ) → map (value d.aig x (chosen kept f) t) (property_literals d.props) ≡ map (value c.aig x f t) (property_literals c.props)
  unfolding value
  same-values t =
      let now = along t in
      ap (λ (s : State). map (value_within d.aig (x t) s) (property_literals d.props)) (sym now.1)
      ∙ all-read c d (x t) (latch_value c.aig x f t) (to (latch_value c.aig x f t)) (p.reads (x t) (latch_value c.aig x f t) now.0)

-- the properties have equal values at each step
pub maps-give-streams : (c d : Netlist) (kept : List ℕ) (holds : State → Type 0) (to : State → State) → MapsGiveStreams c d kept holds to
maps-give-streams c d kept holds to p x f t = same-values c d kept holds to p x f t
