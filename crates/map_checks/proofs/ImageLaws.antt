-- Circuits and maps among shared gates have their values.
use Rattle.std.proofs.Common.{inl, inr, ℕ, ◌+◌, ◌-◌, ◌*◌, ◌<◌, ◌≤◌, ◌≡◌, suc, zero, Bool, true, false, not, List, [], ◌∷◌, ◌++◌, length, map, get_or, slice_get, Some, refl, arith, ap, sym, ◌∙◌, subst}
use Rattle.std.specs.List.{All}
use Rattle.std.proofs.lemmas.Bool.{cases_eq, cases_lt}
use Rattle.std.proofs.lemmas.List.{get_or-map, get_or_append_left, get_or_push, length-map}
use Rattle.aig_graph.specs.declared.graph.Latch.{Latch}
use Rattle.aig_graph.specs.Circuits.{Netlist, IsNetlist}
use Rattle.aig_graph.specs.Graph.{Graph, IsGraph, first_gate, first_latch, variable, variables_end}
use Rattle.aig_graph.specs.Value.{next_value, signed, value_within}
use Rattle.aig_graph.proofs.KindLaws.{element}
use Rattle.aig_graph.proofs.SignLaws.{value_signed, value_signed_as}
use Rattle.state_maps.specs.States.{Digits, State, after_step}
use Rattle.state_maps.specs.MapCircuits.{mapped}
use Rattle.state_maps.proofs.WithinLaws.{within_laws}
use Rattle.std.proofs.lemmas.List.Elements.{All-map}
use Rattle.aig_graph.proofs.ListLaws.{map-map, map-same}
use Rattle.aig_graph.specs.Gates.{Gates, Grows, IsNegated, Respects, gates_end, gates_of}
use Rattle.gate_sharing.specs.Shared.{IsSharedLiteral}
use Rattle.gate_sharing.specs.Equal.{Equal, IsRight, StaysRight}
use Rattle.gate_sharing.specs.Copies.{AreShared, Copy, CopiesValues, IsCopy, copied_end, copy_of}
use Rattle.map_checks.specs.Images.{StandForLatches, Assumes, IsFaithfulCopy, Learns, Views, in_first, in_map, in_map_later, in_second_mapped, nexts_of, copy_of_literals}
use Rattle.gate_sharing.proofs.SharedLaws.{respects-fewer, shared-more}
use Rattle.gate_sharing.proofs.CopyLaws.{copy-from, copy-low, leaves-shared}

none : ℕ → Bool
none = λ j. false

-- values of a graph respect its gates
pub graph-respects : (g : Graph) → IsGraph g → (x : Digits) (s : State) → Respects (gates_of g) (value_within g x s)
graph-respects g valid x s =
    let laws = within_laws g valid x s in
    record { constant = laws.constant; negation = laws.negation; gates = laws.gate }

-- the value of a latch by its place
pub latch-value : (g : Graph) → IsGraph g → (x : Digits) (s : State) (j : ℕ) → j < length g.latches → value_within g x s (2 * (first_latch g + j)) ≡ s j
latch-value g valid x s j less = let there = element g.latches j less in (within_laws g valid x s).latch j there.0 there.1

-- leaves have their values where the literals of each do
pub leaves-follow : (leaves : Copy) (n : ℕ) (values own : ℕ → Bool) → IsNegated values → IsNegated own → copied_end leaves ≡ n → ((v : ℕ) → v < leaves.first → values (2 * v) ≡ own (2 * v))
    → ((j : ℕ) → j < length leaves.literals → values (get_or leaves.literals j 0) ≡ own (2 * (leaves.first + j))) → CopiesValues leaves n values own
leaves-follow leaves n values own negated own_negated end low each lit less = elim (cases_lt (variable lit) leaves.first) [
  | inl before ↦ ap values (copy-low leaves lit before) ∙ value_signed values negated lit ∙ ap (signed lit) (low (variable lit) before) ∙ sym (value_signed own own_negated lit)
  | inr from ↦ (
      let place : 2 * (leaves.first + (variable lit - leaves.first)) ≡ 2 * variable lit = omega (arith, from) in
      ap values (copy-from leaves lit from)
      ∙ value_signed_as values negated lit (get_or leaves.literals (variable lit - leaves.first) 0)
      ∙ ap (signed lit) (each (variable lit - leaves.first) (omega (arith, less, end, from)) ∙ ap own place)
      ∙ sym (value_signed own own_negated lit))
]

-- what stands for each latch is shared
pub latches-shared : (k : Gates) (e : Equal) (c : Graph) (first : ℕ) (leaves : Copy) → k.first ≡ first_gate c → first ≤ first_latch c → StandForLatches e c first leaves → AreShared k leaves
latches-shared k e c first leaves after few are =
    leaves-shared k leaves (omega (arith, are.from, few, after)) (λ j less. omega (arith, are.below j (omega (arith, less, are.long)), are.long, less, after))

-- values of the shared literals remain such with fewer gates, and with equalities that are right if
-- the old ones are
pub views-fewer : (k l : Gates) (e f : Equal) (c : Graph) (x : Digits) (s : State) (values : ℕ → Bool) → Grows k l → StaysRight e f → Views l e c x s values → Views k f c x s values
views-fewer k l e f c x s values grows stays views = record {
  respects = respects-fewer k l grows values views.respects;
  right = stays values views.respects.negation views.right;
  inputs = views.inputs;
  latches = views.latches;
}

-- a view stays one as gates and equalities come
pub view-later : (k l : Gates) (e f : Equal) (c g : Graph) (own : Digits → State → ℕ → Bool) (copy : Copy) → Grows k l → StaysRight e f → IsFaithfulCopy k f c g own copy → AreShared l copy → IsFaithfulCopy l e c g own copy
view-later k l e f c g own copy grows stays view within = record {
  long = view.long;
  within = within;
  follows = λ values x s views. view.follows values x s (views-fewer k l e f c x s values grows stays views);
}

-- a copy over leaves that have their values
module _ (k : Gates) (e f : Equal) (c g : Graph) (own : Digits → State → ℕ → Bool) (leaves copy : Copy) (respects : (x : Digits) (s : State) → Respects (gates_of g) (own x s)) (stays : StaysRight e f)
    (long : copied_end leaves ≡ first_gate g) where
  -- a copy of a graph over leaves that have their values is a view of the graph
  pub view-of : IsCopy k f g leaves copy
      → ((values : ℕ → Bool) (x : Digits) (s : State) → Views k e c x s values → (v : ℕ) → v < leaves.first → values (2 * v) ≡ own x s (2 * v))
      → ((values : ℕ → Bool) (x : Digits) (s : State) → Views k e c x s values → (j : ℕ) → j < length leaves.literals → values (get_or leaves.literals j 0) ≡ own x s (2 * (leaves.first + j)))
      → IsFaithfulCopy k e c g own copy
  view-of is low each = record {
    long = is.long;
    within = is.within;
    follows = λ values x s views.
        is.follows values (own x s) views.respects (respects x s) (stays values views.respects.negation views.right)
        (leaves-follow leaves (first_gate g) values (own x s) views.respects.negation (respects x s).negation long (low values x s views) (each values x s views));
  }

-- the values of the constant and the inputs
pub inputs-same : (k : Gates) (e : Equal) (c d : Graph) → IsGraph d → d.inputs ≡ c.inputs → (x : Digits) (s t : State) (values : ℕ → Bool) → Views k e c x s values → (v : ℕ) → v < first_latch d
    → values (2 * v) ≡ value_within d x t (2 * v)
inputs-same k e c d valid same x s t values views zero less = views.respects.constant ∙ sym (within_laws d valid x t).constant
inputs-same k e c d valid same x s t values views (suc i) less =
    let laws = within_laws d valid x t in
    let place : 2 * suc i ≡ 2 * (1 + i) = omega arith in
    ap values place ∙ views.inputs i (omega (arith, less, same)) ∙ sym (laws.input i (omega (arith, less))) ∙ sym (ap (value_within d x t) place)

-- the values of all literals before the gates
pub leaf-value : (k : Gates) (e : Equal) (c : Graph) → IsGraph c → (x : Digits) (s : State) (values : ℕ → Bool) → Views k e c x s values → (lit : ℕ) → variable lit < first_gate c → values lit ≡ value_within c x s lit
leaf-value k e c valid x s values views lit less =
    value_signed values views.respects.negation lit ∙ ap (signed lit) (go (variable lit) less) ∙ sym (value_signed (value_within c x s) (within_laws c valid x s).negation lit)
  where
    go : (v : ℕ) → v < first_gate c → values (2 * v) ≡ value_within c x s (2 * v)
    go v less = elim (cases_lt v (first_latch c)) [
      | inl low ↦ inputs-same k e c c valid refl x s s values views v low
      | inr from ↦ (
          let j : ℕ = v - first_latch c in
          let place : 2 * v ≡ 2 * (first_latch c + j) = omega (arith, from) in
          let within : j < length c.latches = omega (arith, less, from) in
          ap values place ∙ views.latches j within ∙ sym (latch-value c valid x s j within) ∙ sym (ap (value_within c x s) place))
    ]

-- the constant alone, before the inputs of a map
pub constant-same : (k : Gates) (e : Equal) (c m : Graph) → IsGraph m → (x y : Digits) (s t : State) (values : ℕ → Bool) → Views k e c x s values → (v : ℕ) → v < 1 → values (2 * v) ≡ value_within m y t (2 * v)
constant-same k e c m valid x y s t values views zero less = views.respects.constant ∙ sym (within_laws m valid y t).constant
constant-same k e c m valid x y s t values views (suc i) less = absurd (omega arith)

-- the gates of c
pub view-first : (k : Gates) (e f : Equal) (c : Netlist) (leaves copy : Copy) → IsGraph c.aig → StandForLatches e c.aig (first_latch c.aig) leaves → StaysRight e f → IsCopy k f c.aig leaves copy
    → IsFaithfulCopy k e c.aig c.aig (in_first c) copy
view-first k e f c leaves copy valid are stays is =
    let g : Graph = c.aig in
    view-of k e f g g (in_first c) leaves copy (graph-respects g valid) stays (omega (arith, are.from, are.long)) is
    (λ values x s views v less. inputs-same k e g g valid refl x s s values views v (omega (arith, less, are.from)))
    (λ values x s views j less.
    let place : 2 * (leaves.first + j) ≡ 2 * (first_latch g + j) = omega (arith, are.from) in
    are.values values views.respects.negation views.right j (omega (arith, less, are.long))
    ∙ views.latches j (omega (arith, less, are.long))
    ∙ sym (ap (value_within g x s) place ∙ latch-value g valid x s j (omega (arith, less, are.long))))

-- the map over the latches of c
pub view-map : (k : Gates) (e f : Equal) (c : Graph) (m : Netlist) (leaves copy : Copy) → IsGraph m.aig → m.aig.inputs ≡ length c.latches → m.aig.latches ≡ [] → StandForLatches e c 1 leaves → StaysRight e f
    → IsCopy k f m.aig leaves copy → IsFaithfulCopy k e c m.aig (in_map m) copy
view-map k e f c m leaves copy valid wide combinational are stays is =
    let g : Graph = m.aig in
    let empty : length g.latches ≡ 0 = ap (λ (xs : List Latch). length xs) combinational in
    view-of k e f c g (in_map m) leaves copy (λ x s. graph-respects g valid s (λ j. false)) stays (omega (arith, are.from, are.long, wide, empty)) is
    (λ values x s views v less. constant-same k e c g valid x s s (λ j. false) values views v (omega (arith, less, are.from)))
    (λ values x s views j less.
    let place : 2 * (leaves.first + j) ≡ 2 * (1 + j) = omega (arith, are.from) in
    are.values values views.respects.negation views.right j (omega (arith, less, are.long))
    ∙ views.latches j (omega (arith, less, are.long))
    ∙ sym (ap (value_within g s (λ j. false)) place ∙ (within_laws g valid s (λ j. false)).input j (omega (arith, less, are.long, wide))))

-- the next literal of a latch
next-at : (latches : List Latch) (own : ℕ → Bool) (j : ℕ) → j < length latches → own (get_or (nexts_of latches) j 0) ≡ next_value own (slice_get latches j)
next-at [] own j less = absurd (omega arith)
next-at (latch ∷ latches) own zero less = refl
next-at (latch ∷ latches) own (suc j) less = next-at latches own j (omega arith)

-- the map a step later
pub view-later_map : (k l : Gates) (e f : Equal) (c m : Netlist) (before copy : Copy) → IsGraph m.aig → IsGraph c.aig → m.aig.inputs ≡ length c.aig.latches → m.aig.latches ≡ [] → Grows k l
    → IsFaithfulCopy k e c.aig c.aig (in_first c) before → StaysRight e f → IsCopy l f m.aig (copy_of_literals 1 before (nexts_of c.aig.latches)) copy → IsFaithfulCopy l e c.aig m.aig (in_map_later c m) copy
view-later_map k l e f c m before copy valid own_valid wide combinational grows view stays is =
    let g : Graph = m.aig in
    let nexts : List ℕ = nexts_of c.aig.latches in
    let empty : length g.latches ≡ 0 = ap (λ (xs : List Latch). length xs) combinational in
    let many : length nexts ≡ length c.aig.latches = length-map c.aig.latches (λ latch. latch.next) in
    let all : length (map (copy_of before) nexts) ≡ length nexts = length-map nexts (copy_of before) in
    view-of l e f c.aig g (in_map_later c m) (copy_of_literals 1 before nexts) copy (λ x s. graph-respects g valid (after_step c.aig x s) (λ j. false)) stays (omega (arith, many, all, wide, empty)) is
    (λ values x s views v less. constant-same l e c.aig g valid x (after_step c.aig x s) s (λ j. false) values views v less)
    (λ values x s views j less.
    let within : j < length nexts = omega (arith, less, all) in
    let inside : j < length c.aig.latches = omega (arith, within, many) in
    let there = element c.aig.latches j inside in
    let next : get_or nexts j 0 ≡ there.0.next = get_or-map (λ (latch : Latch). latch.next) c.aig.latches j there.0 0 inside ∙ ap (λ (latch : Latch). latch.next) (read-at c.aig.latches j there.0 there.1) in
    let reads : variable (get_or nexts j 0) < variables_end c.aig = subst (λ (n : ℕ). variable n < variables_end c.aig) (sym next) (own_valid.latches j there.0 there.1) in
    ap values (get_or-map (copy_of before) nexts j 0 0 within)
    ∙ view.follows values x s (views-fewer k l e e c.aig x s values grows (λ vs negated right. right) views) (get_or nexts j 0) reads
    ∙ next-at c.aig.latches (value_within c.aig x s) j inside
    ∙ sym ((within_laws g valid (after_step c.aig x s) (λ j. false)).input j (omega (arith, inside, wide))))
  where
    read-at : (latches : List Latch) (j : ℕ) (latch : Latch) → slice_get latches j ≡ Some latch → get_or latches j latch ≡ latch
    read-at [] j latch e = refl
    read-at (x ∷ xs) zero latch e = same-of x latch e
      where
        same-of : (a b : Latch) → Some a ≡ Some b → a ≡ b
        same-of a b e = cc
    read-at (x ∷ xs) (suc j) latch e = read-at xs j latch e

-- the gates of d over the outputs of the map
pub view-second : (k l : Gates) (e f : Equal) (c : Graph) (d m : Netlist) (before copy : Copy) → IsGraph d.aig → IsNetlist m → d.aig.inputs ≡ c.inputs → length m.props.outputs ≡ length d.aig.latches → Grows k l
    → IsFaithfulCopy k e c m.aig (in_map m) before → StaysRight e f → IsCopy l f d.aig (copy_of_literals (first_latch d.aig) before m.props.outputs) copy → IsFaithfulCopy l e c d.aig (in_second_mapped d m) copy
view-second k l e f c d m before copy valid netlist same many grows view stays is =
    let g : Graph = d.aig in
    let lits : List ℕ = m.props.outputs in
    let all : length (map (copy_of before) lits) ≡ length lits = length-map lits (copy_of before) in
    view-of l e f c g (in_second_mapped d m) (copy_of_literals (first_latch g) before lits) copy (λ x s. graph-respects g valid x (mapped m s)) stays (omega (arith, all, many)) is
    (λ values x s views v less. inputs-same l e c g valid same x s (mapped m s) values views v less)
    (λ values x s views j less.
    let within : j < length lits = omega (arith, less, all) in
    ap values (get_or-map (copy_of before) lits j 0 0 within)
    ∙ view.follows values x s (views-fewer k l e e c x s values grows (λ vs negated right. right) views) (get_or lits j 0) (netlist.props.outputs j 0 within)
    ∙ sym (get_or-map (value_within m.aig s (λ j. false)) lits j 0 false within)
    ∙ sym (latch-value g valid x (mapped m s) j (omega (arith, within, many))))

-- copied lists have their values
module _ (copy : Copy) (n : ℕ) (values own : ℕ → Bool) (follows : CopiesValues copy n values own) where
  -- the literals that stand in a copy for those of a list have the values of the list
  pub copied-list : (lits : List ℕ) → All (λ lit. variable lit < n) lits → map values (map (copy_of copy) lits) ≡ map own lits
  copied-list lits all = map-map values (copy_of copy) lits ∙ map-same (λ lit. variable lit < n) (λ lit. values (copy_of copy lit)) own follows lits all

  -- the literals that stand in a copy for those of lists have the values of the lists
  pub copied-lists : (lists : List (List ℕ)) → All (λ lits. All (λ lit. variable lit < n) lits) lists → map (map values) (map (map (copy_of copy)) lists) ≡ map (map own) lists
  copied-lists lists all =
      map-map (map values) (map (copy_of copy)) lists
      ∙ map-same (λ lits. All (λ lit. variable lit < n) lits) (λ (lits : List ℕ). map values (map (copy_of copy) lits)) (map own) copied-list lists all

  -- literals that are 1 in the copy have the value 1
  pub copied-ones : values 0 ≡ false → IsNegated values → (lits : List ℕ) → All (λ lit. variable lit < n) lits → All (λ lit. copy_of copy lit ≡ 1) lits → All (λ b. b ≡ true) (map own lits)
  copied-ones constant negated lits all ones =
      All-map (λ b. b ≡ true) own lits (λ k d less.
      sym (follows (get_or lits k d) (all k d less)) ∙ ap values (ones k d less) ∙ negated 0 ∙ ap not constant)

-- what holds of each entry by its place, with one more
pub each-push : (P : ℕ → ℕ → Type 0) (xs new : List ℕ) (y : ℕ) → new ≡ xs ++ y ∷ [] → ((j : ℕ) → j < length xs → P j (get_or xs j 0)) → P (length xs) y → (j : ℕ) → j < length xs + 1 → P j (get_or new j 0)
each-push P xs new y pushed each last j less = elim (cases_eq j (length xs)) [
  | inl same ↦ (
      let read : get_or new j 0 ≡ y = ap (λ (zs : List ℕ). get_or zs j 0) pushed ∙ get_or_push xs y 0 j (sym same) in
      subst (P j) (sym read) (subst (λ (n : ℕ). P n y) (sym same) last))
  | inr other ↦ (
      let before : j < length xs = omega (arith, less, other) in
      let read : get_or new j 0 ≡ get_or xs j 0 = ap (λ (zs : List ℕ). get_or zs j 0) pushed ∙ get_or_append_left xs (y ∷ []) 0 j before in
      subst (P j) (sym read) (each j before))
]

-- next literals are of the graph
pub nexts-within : (g : Graph) → IsGraph g → All (λ lit. variable lit < variables_end g) (nexts_of g.latches)
nexts-within g valid = go g.latches (λ j latch e. valid.latches j latch e)
  where
    go : (latches : List Latch) → ((j : ℕ) (latch : Latch) → slice_get latches j ≡ Some latch → variable latch.next < variables_end g) → All (λ lit. variable lit < variables_end g) (nexts_of latches)
    go [] each zero d less = absurd (omega arith)
    go [] each (suc j) d less = absurd (omega arith)
    go (latch ∷ latches) each zero d less = each 0 latch refl
    go (latch ∷ latches) each (suc j) d less = go latches (λ i other e. each (suc i) other e) j d (omega arith)

-- the literals of a list that a copy has are shared
pub picked-shared : (k : Gates) (first : ℕ) (c : Copy) (lits : List ℕ) → first ≤ gates_end k → AreShared k c → All (λ lit. variable lit < copied_end c) lits → AreShared k (copy_of_literals first c lits)
picked-shared k first c lits few within all =
    leaves-shared k (copy_of_literals first c lits) few (λ j less.
    let inside : j < length lits = omega (arith, less, length-map lits (copy_of c)) in
    let read : get_or (map (copy_of c) lits) j 0 ≡ copy_of c (get_or lits j 0) = get_or-map (copy_of c) lits j 0 0 inside in
    subst (λ (n : ℕ). IsSharedLiteral k n) (sym read) (within (get_or lits j 0) (all j 0 inside)))

-- literals whose values are 1
pub ones-of : (own : ℕ → Bool) (lits : List ℕ) → All (λ b. b ≡ true) (map own lits) → All (λ lit. own lit ≡ true) lits
ones-of own lits all k d less = sym (get_or-map own lits k d false less) ∙ all k false (omega (arith, less, length-map lits own))

-- what was learnt, and then more
pub learns-then : (k l : Gates) (c : Graph) (m : Netlist) (e f h : Equal) → Grows k l → Learns k c m e f → Learns l c m f h → Learns l c m e h
learns-then k l c m e f h grows one two values x s views kept =
    let right : IsRight f values = one values x s (views-fewer k l e e c x s values grows (λ vs negated right. right) views) kept in
    two values x s (record { respects = views.respects; right = right; inputs = views.inputs; latches = views.latches }) kept

-- what the constraints of a copy of the map say
pub learns-of : (l : Gates) (c : Graph) (m : Netlist) (e f h : Equal) (copy : Copy) → IsGraph m.aig → IsFaithfulCopy l e c m.aig (in_map m) copy → StaysRight e f → Assumes m copy f h → Learns l c m e h
learns-of l c m e f h copy valid view stays assumes values x s views kept =
    assumes values (in_map m x s) views.respects.negation (graph-respects m.aig valid s (λ j. false)) (view.follows values x s views) (ones-of (in_map m x s) m.props.constraints kept)
    (stays values views.respects.negation views.right)

-- a copy whose literals are shared has its literals shared after the gates have grown
pub shared-later : (k l : Gates) (c : Copy) → Grows k l → AreShared k c → AreShared l c
shared-later k l c grows within lit less = shared-more k l grows (copy_of c lit) (within lit less)
