-- What stands for the literals of each circuit has their values.
use Rattle.std.proofs.Common.{inl, inr, ℕ, suc, ◌+◌, ◌-◌, ◌*◌, ◌<◌, ◌≤◌, ◌≡◌, Bool, false, List, [], ◌∷◌, ◌++◌, length, get_or, slice_get, Option, Some, None, refl, arith, ap, sym, ◌∙◌, subst}
use Rattle.std.proofs.lemmas.Bool.{cases_eq, cases_lt}
use Rattle.std.proofs.lemmas.List.{get_or_append_left, get_or-append_right, get_or-map, get_or_default, length-append}
use Rattle.std.proofs.lemmas.Option.{get_or_from_slice_get}
use Rattle.aig_graph.specs.Tables.{table}
use Rattle.aig_graph.proofs.TableLaws.{length-table, table-at}
use Rattle.aig_graph.specs.Circuits.{AreLiteralsOf}
use Rattle.aig_graph.specs.Graph.{Graph, IsGraph, IsLiteralOf, first_gate, first_latch, variables_end}
use Rattle.aig_graph.specs.Value.{value_within}
use Rattle.aig_graph.proofs.KindLaws.{element}
use Rattle.state_maps.specs.States.{Digits, State}
use Rattle.state_maps.proofs.WithinLaws.{within_laws}
use Rattle.map_circuits.specs.Growing.{Extends}
use Rattle.witness_circuits.specs.declared.sharing.Sharing.{Sharing}
use Rattle.witness_circuits.specs.Joining.{joined, joined_at, own_at, own_count}
use Rattle.map_circuits.specs.Instances.{HaveValues, IsInstance, substitute}
use Rattle.map_circuits.proofs.InstanceLaws.{substitute-value, substitute-within}
use Rattle.witness_circuits.specs.Literals.{AreSources, source_of}
use Rattle.witness_circuits.specs.Parts.{AreWitnessLeaves, HasPlaces, IsFitting, IsView, first_leaves, held_by, in_shared, map_leaves}
use Rattle.witness_circuits.proofs.CountLaws.{count-lt}

-- the values of inputs and latches of a graph, by their literals
pub input-value : (h : Graph) → IsGraph h → (z : Digits) (u : State) (i : ℕ) → i < h.inputs → value_within h z u (2 * (1 + i)) ≡ z i
input-value h valid z u i less = (within_laws h valid z u).input i less

-- the literal of latch j has the value of that latch in the state
pub latch-value : (h : Graph) → IsGraph h → (z : Digits) (u : State) (j : ℕ) → j < length h.latches → value_within h z u (2 * (first_latch h + j)) ≡ u j
latch-value h valid z u j less = let there = element h.latches j less in (within_laws h valid z u).latch j there.0 there.1

-- past the first of a list
read-past : (x : ℕ) (xs : List ℕ) (i d : ℕ) → get_or (x ∷ xs) (1 + i) d ≡ get_or xs i d
read-past x xs i d = let next : 1 + i ≡ suc i = omega arith in ap (λ (n : ℕ). get_or (x ∷ xs) n d) next

-- the leaves of a graph: the constant, literals of the inputs and literals of the latches
module _ (h g : Graph) (inputs latches : List ℕ) (one : IsGraph h) (two : IsGraph g) (wide : length inputs ≡ g.inputs) (long : length latches ≡ length g.latches) where
  abbrev leaves : List ℕ
  leaves = 0 ∷ (inputs ++ latches)

  -- there is a leaf for each variable before the gates
  pub length-leaves : length leaves ≡ first_gate g
  length-leaves = omega (arith, length-append inputs latches, wide, long)

  leaf-input : (i : ℕ) → i < length inputs → get_or leaves (1 + i) 0 ≡ get_or inputs i 0
  leaf-input i less = read-past 0 (inputs ++ latches) i 0 ∙ get_or_append_left inputs latches 0 i less

  leaf-latch : (j : ℕ) → get_or leaves (1 + (length inputs + j)) 0 ≡ get_or latches j 0
  leaf-latch j =
      let place : length inputs + j - length inputs ≡ j = omega arith in
      read-past 0 (inputs ++ latches) (length inputs + j) 0
      ∙ get_or-append_right inputs latches (length inputs) (length inputs + j) 0 refl (omega arith) ∙ ap (λ (k : ℕ). get_or latches k 0) place

  -- the leaves have the values of a step if the literals of the inputs and of the latches do
  pub leaves-have : (z x : Digits) (u s : State) → ((i : ℕ) → i < g.inputs → value_within h z u (get_or inputs i 0) ≡ x i) → ((j : ℕ) → j < length g.latches → value_within h z u (get_or latches j 0) ≡ s j)
      → HaveValues h leaves z u (value_within g x s)
  leaves-have z x u s of_inputs of_latches v less = elim (cases_eq v 0) [
    | inl none ↦ (
        let at : 2 * v ≡ 0 = omega (arith, none) in
        ap (λ (k : ℕ). value_within h z u (get_or leaves k 0)) none ∙ (within_laws h one z u).constant ∙ sym (ap (value_within g x s) at ∙ (within_laws g two x s).constant))
    | inr other ↦ elim (cases_lt (v - 1) (length inputs)) [
      | inl low ↦ (
          let at : v ≡ 1 + (v - 1) = omega (arith, other) in
          let place : 2 * v ≡ 2 * (1 + (v - 1)) = omega (arith, other) in
          ap (λ (k : ℕ). value_within h z u (get_or leaves k 0)) at
          ∙ ap (value_within h z u) (leaf-input (v - 1) low)
          ∙ of_inputs (v - 1) (omega (arith, low, wide))
          ∙ sym (ap (value_within g x s) place ∙ input-value g two x s (v - 1) (omega (arith, low, wide))))
      | inr past ↦ (
          let j : ℕ = v - 1 - length inputs in
          let at : v ≡ 1 + (length inputs + (v - 1 - length inputs)) = omega (arith, other, past) in
          let short : v - 1 - length inputs < length g.latches = omega (arith, less, length-append inputs latches, past, other, long) in
          let place : 2 * v ≡ 2 * (first_latch g + (v - 1 - length inputs)) = omega (arith, other, past, wide) in
          ap (λ (k : ℕ). value_within h z u (get_or leaves k 0)) at
          ∙ ap (value_within h z u) (leaf-latch (v - 1 - length inputs))
          ∙ of_latches (v - 1 - length inputs) short
          ∙ sym (ap (value_within g x s) place ∙ latch-value g two x s (v - 1 - length inputs) short))
    ]
  ]

  -- the leaves are literals of the graph if those of the inputs and of the latches are
  pub leaves-within : AreLiteralsOf h inputs → AreLiteralsOf h latches → AreLiteralsOf h leaves
  leaves-within of_inputs of_latches k d less = elim (cases_eq k 0) [
    | inl none ↦ subst (λ (n : ℕ). IsLiteralOf h (get_or leaves n d)) (sym none) (omega arith)
    | inr other ↦ elim (cases_lt (k - 1) (length inputs)) [
      | inl low ↦ (
          let at : k ≡ 1 + (k - 1) = omega (arith, other) in
          let read : get_or leaves (1 + (k - 1)) d ≡ get_or inputs (k - 1) d = read-past 0 (inputs ++ latches) (k - 1) d ∙ get_or_append_left inputs latches d (k - 1) low in
          subst (λ (n : ℕ). IsLiteralOf h (get_or leaves n d)) (sym at) (subst (λ (l : ℕ). IsLiteralOf h l) (sym read) (of_inputs (k - 1) d low)))
      | inr past ↦ (
          let at : k ≡ 1 + (k - 1) = omega (arith, other) in
          let read : get_or leaves (1 + (k - 1)) d ≡ get_or latches (k - 1 - length inputs) d = read-past 0 (inputs ++ latches) (k - 1) d ∙ get_or-append_right inputs latches (length inputs) (k - 1) d refl past in
          let short : k - 1 - length inputs < length latches = omega (arith, less, length-append inputs latches, past, other) in
          subst (λ (n : ℕ). IsLiteralOf h (get_or leaves n d)) (sym at) (subst (λ (l : ℕ). IsLiteralOf h l) (sym read) (of_latches (k - 1 - length inputs) d short)))
    ]
  ]

-- an instance over leaves that have the values of a step is a view
pub instance-view : (h i g : Graph) (leaves literals : List ℕ) (x : Digits → State → Digits) (s : Digits → State → State) → IsGraph g → IsGraph i → IsInstance h g leaves i literals
    → ((z : Digits) (u : State) → HaveValues h leaves z u (value_within g (x z u) (s z u))) → IsView i g (λ z u. value_within g (x z u) (s z u)) literals
instance-view h i g leaves literals x s valid graph p have = record {
  many = p.many;
  within = p.within;
  values = λ z u lit less. substitute-value i g literals graph valid z (x z u) u (s z u) (p.values z (x z u) u (s z u) (have z u)) lit (omega (arith, less, p.many));
}

-- a view stays one as the graph grows
pub view-grows : (h i g : Graph) (own : Digits → State → ℕ → Bool) (literals : List ℕ) → Extends h i → IsView h g own literals → IsView i g own literals
view-grows h i g own literals more p = record {
  many = p.many;
  within = λ k d less. more.literals (get_or literals k d) (p.within k d less);
  values = λ z u lit less. more.values z u (substitute literals lit) (substitute-within h literals lit p.within (omega (arith, less, p.many))) ∙ p.values z u lit less;
}

-- tables of literals
pub table-within : (h : Graph) (first count : ℕ) → first + count ≤ variables_end h → AreLiteralsOf h (table 0 count (λ k. 2 * (first + k)))
table-within h first count room k d less =
    let short : k < count = omega (arith, less, length-table 0 count (λ k. 2 * (first + k))) in
    let read : get_or (table 0 count (λ k. 2 * (first + k))) k d ≡ 2 * (first + (0 + k)) = table-at 0 count (λ k. 2 * (first + k)) k d short in
    omega (arith, read, short, room)

table-read : (first count k : ℕ) → k < count → get_or (table 0 count (λ j. 2 * (first + j))) k 0 ≡ 2 * (first + k)
table-read first count k less = omega (arith, table-at 0 count (λ j. 2 * (first + j)) k 0 less)

module _ (h : Graph) (valid : IsGraph h) where
  -- the circuit
  pub first-have : (c : Graph) (at : ℕ) → IsGraph c → at ≡ first_latch h → c.inputs ≤ h.inputs → length c.latches ≤ length h.latches → (z : Digits) (u : State)
      → HaveValues h (first_leaves at c) z u (value_within c z u)
  first-have c at graph is wide long z u =
      leaves-have h c (table 0 c.inputs (λ i. 2 * (1 + i))) (table 0 (length c.latches) (λ j. 2 * (at + j))) valid graph (length-table 0 c.inputs (λ i. 2 * (1 + i))) (length-table 0 (length c.latches) (λ j. 2 * (at + j))) z z u u
      (λ i less. ap (value_within h z u) (table-read 1 c.inputs i less) ∙ input-value h valid z u i (omega (arith, less, wide)))
      (λ j less.
      let place : 2 * (at + j) ≡ 2 * (first_latch h + j) = omega (arith, is) in
      ap (value_within h z u) (table-read at (length c.latches) j less ∙ place) ∙ latch-value h valid z u j (omega (arith, less, long)))

  -- the map
  pub map-have : (m : Graph) (at : ℕ) → IsGraph m → at ≡ first_latch h → m.inputs ≤ length h.latches → m.latches ≡ [] → (z : Digits) (u : State)
      → HaveValues h (map_leaves at m) z u (value_within m u (λ j. false))
  map-have m at graph is wide none z u =
      let long : 0 ≡ length m.latches = ap length (sym none) in
      leaves-have h m (table 0 m.inputs (λ j. 2 * (at + j))) [] valid graph (length-table 0 m.inputs (λ j. 2 * (at + j))) long z u u (λ j. false)
      (λ i less.
      let place : 2 * (at + i) ≡ 2 * (first_latch h + i) = omega (arith, is) in
      ap (value_within h z u) (table-read at m.inputs i less ∙ place) ∙ latch-value h valid z u i (omega (arith, less, wide)))
      (λ j less. absurd (omega (arith, less, long)))

  -- what the sources of a witness's inputs or latches hold
  pub source-value : (places : List (Option ℕ)) (shared lits : List ℕ) (own : ℕ) (z : Digits) (u : State) (held mine : ℕ → Bool) → AreSources places shared own lits
      → ((k at : ℕ) → slice_get places k ≡ Some (Some at) → value_within h z u (get_or shared at 0) ≡ held at)
      → ((k : ℕ) → slice_get places k ≡ Some None → value_within h z u (2 * own_at own places k) ≡ mine k)
      → (k : ℕ) → k < length places → value_within h z u (get_or lits k 0) ≡ joined places held mine k
  source-value places shared lits own z u held mine p of_shared of_own k less =
      let o = element places k less in
      let read : get_or places k None ≡ o.0 = get_or_from_slice_get places k o.0 None o.1 in
      ap (value_within h z u) (p.each k less ∙ ap (source_of shared (own_at own places k)) read) ∙ by_place o.0 o.1 ∙ sym (ap (joined_at held mine k) o.1)
    where
      by_place : (o : Option ℕ) → slice_get places k ≡ Some o → value_within h z u (source_of shared (own_at own places k) o) ≡ joined_at held mine k (Some o)
      by_place None e = of_own k e
      by_place (Some at) e = of_shared k at e

  -- the witness
  pub witness-have : (c w : Graph) (outputs leaves : List ℕ) (k : Sharing) (at : ℕ) → IsGraph w → at ≡ first_latch h → HasPlaces h c k → IsFitting c (length outputs) w k → AreWitnessLeaves at c outputs k leaves
      → (z : Digits) (u : State) → HaveValues h leaves z u (in_shared h outputs c w k z u)
  witness-have c w outputs leaves k at graph is places fits p z u =
      let x : Digits = joined k.inputs z (λ i. z (own_at c.inputs k.inputs i)) in
      let s : State = joined k.latches (held_by h outputs z u) (λ j. u (own_at (length c.latches) k.latches j)) in
      subst (λ (ls : List ℕ). HaveValues h ls z u (value_within w x s)) (sym p.are)
      (leaves-have h w p.inputs p.latches valid graph (p.of_inputs.many ∙ fits.inputs) (p.of_latches.many ∙ fits.latches) z x u s
      (λ i less. source-value k.inputs (table 0 c.inputs (λ i. 2 * (1 + i))) p.inputs (1 + c.inputs) z u z (λ i. z (own_at c.inputs k.inputs i)) p.of_inputs
      (λ i place e.
      let below : place < c.inputs = fits.inputs_below i place e in
      ap (value_within h z u) (table-read 1 c.inputs place below) ∙ input-value h valid z u place (omega (arith, below, places.inputs)))
      (λ i e.
      let place : 2 * own_at (1 + c.inputs) k.inputs i ≡ 2 * (1 + own_at c.inputs k.inputs i) = omega arith in
      ap (value_within h z u) place ∙ input-value h valid z u (own_at c.inputs k.inputs i) (omega (arith, count-lt k.inputs i e, places.inputs)))
      i (omega (arith, less, fits.inputs)))
      (λ j less. source-value k.latches outputs p.latches (at + length c.latches) z u (held_by h outputs z u) (λ j. u (own_at (length c.latches) k.latches j)) p.of_latches
      (λ j place e. sym (get_or-map (value_within h z u) outputs place 0 false (fits.latches_below j place e)))
      (λ j e.
      let place : 2 * own_at (at + length c.latches) k.latches j ≡ 2 * (first_latch h + own_at (length c.latches) k.latches j) = omega (arith, is) in
      ap (value_within h z u) place ∙ latch-value h valid z u (own_at (length c.latches) k.latches j) (omega (arith, count-lt k.latches j e, places.latches)))
      j (omega (arith, less, fits.latches))))

-- literals of inputs and latches that stand for a witness's are those of the graph
pub sources-within : (h : Graph) (places : List (Option ℕ)) (shared lits : List ℕ) (own : ℕ) → AreSources places shared own lits → AreLiteralsOf h shared
    → ((k at : ℕ) → slice_get places k ≡ Some (Some at) → at < length shared) → own + own_count places ≤ variables_end h → AreLiteralsOf h lits
sources-within h places shared lits own p of_shared below room k d less =
    let short : k < length places = omega (arith, less, p.many) in
    let o = element places k short in
    let read : get_or places k None ≡ o.0 = get_or_from_slice_get places k o.0 None o.1 in
    let is : get_or lits k d ≡ source_of shared (own_at own places k) o.0 = get_or_default lits k d 0 less ∙ p.each k short ∙ ap (source_of shared (own_at own places k)) read in
    subst (λ (l : ℕ). IsLiteralOf h l) (sym is) (by_place o.0 o.1)
  where
    by_place : (o : Option ℕ) → slice_get places k ≡ Some o → IsLiteralOf h (source_of shared (own_at own places k) o)
    by_place None e = omega (arith, count-lt places k e, room)
    by_place (Some at) e = of_shared at 0 (below k at e)

-- the leaves are one for each variable before the gates, and literals of the graph
module _ (h : Graph) (valid : IsGraph h) where
  -- the circuit's leaves are one for each variable before the gates
  pub first-long : (c : Graph) (at : ℕ) → IsGraph c → length (first_leaves at c) ≡ first_gate c
  first-long c at graph = length-leaves h c (table 0 c.inputs (λ i. 2 * (1 + i))) (table 0 (length c.latches) (λ j. 2 * (at + j))) valid graph
      (length-table 0 c.inputs (λ i. 2 * (1 + i))) (length-table 0 (length c.latches) (λ j. 2 * (at + j)))

  -- the circuit's leaves are literals of a graph with as many inputs and latches at least
  pub first-within : (c : Graph) (at : ℕ) → IsGraph c → at ≡ first_latch h → c.inputs ≤ h.inputs → length c.latches ≤ length h.latches → AreLiteralsOf h (first_leaves at c)
  first-within c at graph is wide long = leaves-within h c (table 0 c.inputs (λ i. 2 * (1 + i))) (table 0 (length c.latches) (λ j. 2 * (at + j))) valid graph
      (length-table 0 c.inputs (λ i. 2 * (1 + i))) (length-table 0 (length c.latches) (λ j. 2 * (at + j)))
      (table-within h 1 c.inputs (omega (arith, wide))) (table-within h at (length c.latches) (omega (arith, is, long)))

  -- the map's leaves are one for each variable before the gates
  pub map-long : (m : Graph) (at : ℕ) → IsGraph m → m.latches ≡ [] → length (map_leaves at m) ≡ first_gate m
  map-long m at graph none = length-leaves h m (table 0 m.inputs (λ j. 2 * (at + j))) [] valid graph (length-table 0 m.inputs (λ j. 2 * (at + j))) (ap length (sym none))

  -- the map's leaves are literals of a graph that has a latch for each input of the map
  pub map-within : (m : Graph) (at : ℕ) → IsGraph m → m.latches ≡ [] → at ≡ first_latch h → m.inputs ≤ length h.latches → AreLiteralsOf h (map_leaves at m)
  map-within m at graph none is wide = leaves-within h m (table 0 m.inputs (λ j. 2 * (at + j))) [] valid graph (length-table 0 m.inputs (λ j. 2 * (at + j))) (ap length (sym none))
      (table-within h at m.inputs (omega (arith, is, wide))) (λ k d less. absurd (omega (arith, less)))

  module _ (c w : Graph) (outputs leaves : List ℕ) (k : Sharing) (at : ℕ) (graph : IsGraph w) (is : at ≡ first_latch h) (places : HasPlaces h c k) (fits : IsFitting c (length outputs) w k)
      (p : AreWitnessLeaves at c outputs k leaves) where
    -- the witness's leaves are one for each variable before the gates
    pub witness-long : length leaves ≡ first_gate w
    witness-long = ap length p.are ∙ length-leaves h w p.inputs p.latches valid graph (p.of_inputs.many ∙ fits.inputs) (p.of_latches.many ∙ fits.latches)

    -- the witness's leaves are literals of the graph if the map's outputs are
    pub witness-within : AreLiteralsOf h outputs → AreLiteralsOf h leaves
    witness-within of_outputs = subst (λ (ls : List ℕ). AreLiteralsOf h ls) (sym p.are)
        (leaves-within h w p.inputs p.latches valid graph (p.of_inputs.many ∙ fits.inputs) (p.of_latches.many ∙ fits.latches)
        (sources-within h k.inputs (table 0 c.inputs (λ i. 2 * (1 + i))) p.inputs (1 + c.inputs) p.of_inputs (table-within h 1 c.inputs (omega (arith, places.inputs)))
        (λ i place e. omega (arith, fits.inputs_below i place e, length-table 0 c.inputs (λ i. 2 * (1 + i)))) (omega (arith, places.inputs)))
        (sources-within h k.latches outputs p.latches (at + length c.latches) p.of_latches of_outputs fits.latches_below (omega (arith, is, places.latches))))
