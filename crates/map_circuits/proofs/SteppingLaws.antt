-- What latches hold after a move and after a pass, by the functions of those before.
use Rattle.std.proofs.Common.{inl, inr, ℕ, ◌+◌, ◌-◌, ◌*◌, ◌<◌, ◌≤◌, ◌≡◌, suc, zero, Bool, true, false, Some, slice_get, List, [], ◌∷◌, length, map, get_or, refl, arith, ap, sym, ◌∙◌, subst}
use Rattle.std.specs.List.{All}
use Rattle.std.proofs.Math.ListN.{get_or-eq_default}
use Rattle.std.proofs.lemmas.List.{get_or-map, length-map}
use Rattle.std.proofs.lemmas.List.Elements.{All-map}
use Rattle.std.proofs.lemmas.Option.{get_or_from_slice_get}
use Rattle.aig_graph.specs.Closed.{IsClosedSet, IsLatchOrIn}
use Rattle.aig_graph.specs.Graph.{Graph, IsLiteralOf, first_latch, variables_end}
use Rattle.aig_graph.specs.Move.{Move}
use Rattle.aig_graph.specs.Value.{value_within}
use Rattle.aig_graph.proofs.GraphLaws.{all_from_slice_get}
use Rattle.aig_graph.proofs.SearchLaws.{has_iff_contains}
use Rattle.rebuild.specs.Moved.{is_latched, latch_for, moved_graph}
use Rattle.rebuild.proofs.BorderLaws.{latched-cases}
use Rattle.aig_graph.specs.Counting.{places}
use Rattle.aig_graph.proofs.ListLaws.{map-same, slice_get-map_some}
use Rattle.aig_graph.proofs.PlacesLaws.{Ranks, rank_at}
use Rattle.state_maps.specs.States.{State}
use Rattle.state_maps.specs.CleanedStates.{held_by}
use Rattle.state_maps.specs.MovedStates.{held_value}
use Rattle.map_circuits.specs.Growing.{Extends}
use Rattle.map_circuits.specs.Following.{Follows, IsCovered, entry_of, state_of}
use Rattle.map_circuits.specs.Stepping.{AreMoved, ArePassed}
use Rattle.map_circuits.proofs.FollowingLaws.{source-from}
use Rattle.aig_graph.proofs.StreamLaws.{funext}

-- the state that functions say stays so as the graph grows
pub state-kept : (g h : Graph) (functions : List ℕ) → Extends g h → All (λ lit. IsLiteralOf g lit) functions → (s : State) → state_of h functions s ≡ state_of g functions s
state-kept g h functions more all s =
    let same : map (value_within h s (λ j. false)) functions ≡ map (value_within g s (λ j. false)) functions =
    map-same (λ lit. IsLiteralOf g lit) (value_within h s (λ j. false)) (value_within g s (λ j. false)) (more.values s (λ j. false)) functions all in
    ap (λ (bs : List Bool). λ (j : ℕ). get_or bs j false) same

-- what the entries of some variables are
entries-hold : (values : ℕ → Bool) (entry : ℕ → ℕ) (g : Graph) (s : State) (vars : List ℕ)
    → ((k v : ℕ) → slice_get vars k ≡ Some v → values (entry v) ≡ value_within g (λ i. false) s (2 * v)) → (j : ℕ) → get_or (map values (map entry vars)) j false ≡ held_value g s (slice_get vars j)
entries-hold values entry g s [] each j = get_or-eq_default [] false {n = j} (omega arith)
entries-hold values entry g s (v ∷ vars) each zero = each 0 v refl
entries-hold values entry g s (v ∷ vars) each (suc j) = entries-hold values entry g s vars (λ k w e. each (suc k) w e) j

latches-many : (m : Move) → length (moved_graph m).latches ≡ length (places (is_latched m) (variables_end m.circuit.aig))
unfolding moved_graph
latches-many m = length-map (places (is_latched m) (variables_end m.circuit.aig)) (latch_for m)

module _ (g : Graph) (functions : List ℕ) (m : Move) (h : Graph) (literals : List ℕ) (set : IsClosedSet m.circuit.aig m.held m.set)
    (follows : Follows g functions m.circuit.aig m.set (variables_end m.circuit.aig) h literals) where
  abbrev first : ℕ
  first = first_latch m.circuit.aig

  abbrev end : ℕ
  end = variables_end m.circuit.aig

  latched-source : (v : ℕ) → is_latched m v ≡ true → IsLatchOrIn m.circuit.aig m.set v
  latched-source v kept = elim (latched-cases m v kept) [
    | inl old ↦ inl (old.0, old.1)
    | inr new ↦ inr ((has_iff_contains m.set v).0 new.1)
  ]

  covered : (v : ℕ) → v < end → is_latched m v ≡ true → IsCovered first literals v
  covered v below kept =
      let from : first ≤ v = source-from m.circuit.aig m.held m.set set v (latched-source v kept) in
      (from, omega (arith, from, below, follows.long))

  -- the entries of the variables that latches of the moved circuit hold are the functions of these
  -- latches
  pub are-moved : (latched new : List ℕ) → latched ≡ places (is_latched m) end → new ≡ map (entry_of first literals) latched → AreMoved g functions m h new
  are-moved latched new are picked =
      let vars : List ℕ = places (is_latched m) end in
      let whole : new ≡ map (entry_of first literals) vars = picked ∙ ap (λ (vs : List ℕ). map (entry_of first literals) vs) are in
      let P : List ℕ → Type 0 = λ lits. AreMoved g functions m h lits in
      subst P (sym whole) (record {
        within = All-map (λ lit. IsLiteralOf h lit) (entry_of first literals) vars (all_from_slice_get (λ v. IsLiteralOf h (entry_of first literals v)) vars
            (λ k v e.
            let r : Ranks (is_latched m) end k v = rank_at (is_latched m) end k v e in
            follows.within v r.below (latched-source v r.passes)));
        many = length-map vars (entry_of first literals) ∙ sym (latches-many m);
        own = λ k v e below.
            let r : Ranks (is_latched m) end k v = rank_at (is_latched m) end k v e in
            let from : first ≤ v = source-from m.circuit.aig m.held m.set set v (latched-source v r.passes) in
            get_or_from_slice_get (map (entry_of first literals) vars) k (entry_of first literals v) 0 (slice_get-map_some (entry_of first literals) vars k v e)
            ∙ follows.latches (v - first) (omega (arith, from, below));
        states = λ s. funext _ _ (λ j. entries-hold (value_within h s (λ j. false)) (entry_of first literals) m.circuit.aig (state_of g functions s) vars
            (λ k v e.
            let r : Ranks (is_latched m) end k v = rank_at (is_latched m) end k v e in
            follows.values s v r.below (latched-source v r.passes)) j);
      })

-- what the entries of some places are
places-hold : (values : ℕ → Bool) (entry : ℕ → ℕ) (s : State) (vars : List ℕ) → ((k v : ℕ) → slice_get vars k ≡ Some v → values (entry v) ≡ s v) → (j : ℕ)
    → get_or (map values (map entry vars)) j false ≡ held_by s (slice_get vars j)
places-hold values entry s [] each j = get_or-eq_default [] false {n = j} (omega arith)
places-hold values entry s (v ∷ vars) each zero = each 0 v refl
places-hold values entry s (v ∷ vars) each (suc j) = places-hold values entry s vars (λ k w e. each (suc k) w e) j

module _ (g : Graph) (functions : List ℕ) (c : Graph) (reached : ℕ → Bool) (many : length functions ≡ length c.latches) where
  abbrev remaining : ℕ → Bool
  remaining j = reached (first_latch c + j)

  -- the functions of the latches that remain are those of the latches after the pass
  pub are-passed : (latches new : List ℕ) → All (λ lit. IsLiteralOf g lit) functions → latches ≡ places remaining (length c.latches) → new ≡ map (entry_of 0 functions) latches
      → ArePassed g functions c reached new
  are-passed latches new all are picked =
      let vars : List ℕ = places remaining (length c.latches) in
      let whole : new ≡ map (entry_of 0 functions) vars = picked ∙ ap (λ (vs : List ℕ). map (entry_of 0 functions) vs) are in
      let P : List ℕ → Type 0 = λ lits. ArePassed g functions c reached lits in
      subst P (sym whole) (record {
        within = All-map (λ lit. IsLiteralOf g lit) (entry_of 0 functions) vars (all_from_slice_get (λ v. IsLiteralOf g (entry_of 0 functions v)) vars
            (λ k v e. let r : Ranks remaining (length c.latches) k v = rank_at remaining (length c.latches) k v e in all (v - 0) 0 (omega (arith, r.below, many))));
        many = length-map vars (entry_of 0 functions);
        own = λ k j e.
            let here : j - 0 ≡ j = omega arith in
            get_or_from_slice_get (map (entry_of 0 functions) vars) k (entry_of 0 functions j) 0 (slice_get-map_some (entry_of 0 functions) vars k j e)
            ∙ ap (λ (i : ℕ). get_or functions i 0) here;
        states = λ s. funext _ _ (λ j. places-hold (value_within g s (λ j. false)) (entry_of 0 functions) (state_of g functions s) vars
            (λ k v e.
            let r : Ranks remaining (length c.latches) k v = rank_at remaining (length c.latches) k v e in
            let here : v - 0 ≡ v = omega arith in
            ap (λ (w : ℕ). value_within g s (λ j. false) (get_or functions w 0)) here
            ∙ sym (get_or-map (value_within g s (λ j. false)) functions v 0 false (omega (arith, r.below, many)))) j);
      })
