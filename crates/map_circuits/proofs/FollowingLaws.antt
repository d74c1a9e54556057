-- The functions of latches and of gates that latches move over, gate by gate.
use Rattle.std.proofs.Common.{inl, inr, ℕ, ◌+◌, ◌-◌, ◌*◌, ◌<◌, ◌≤◌, ◌≡◌, Bool, false, ◌&&◌, Some, List, length, get_or, arith, ap, sym, ◌∙◌, subst}
use Rattle.std.proofs.Common.{set as put}
use Rattle.std.specs.List.{All, Contains}
use Rattle.std.specs.List.Sorted.{IsStrictlyIncreasing}
use Rattle.std.proofs.lemmas.Bool.{cases_eq, cases_lt}
use Rattle.std.proofs.lemmas.Option.{get_or_from_slice_get}
use Rattle.std.proofs.lemmas.List.{get_or-map, get_or-set_same, get_or-set_other, get_or_default, get_or_past, length-set}
use Rattle.std.proofs.lemmas.List.Kept.{AllPairs-from_increasing}
use Rattle.aig_graph.specs.declared.graph.Gate.{Gate}
use Rattle.aig_graph.specs.Closed.{IsClosedSet, IsLatchOrIn}
use Rattle.aig_graph.specs.Graph.{Graph, IsGraph, IsGateAt, IsLiteralOf, variable, first_gate, first_latch, gate_at, variables_end}
use Rattle.aig_graph.specs.Value.{signed, value_within}
use Rattle.aig_graph.proofs.FoldingLaws.{gate_at-is}
use Rattle.aig_graph.proofs.KindLaws.{GatePlace, LatchPlace, gate_place, latch_place}
use Rattle.aig_graph.proofs.SignLaws.{value_signed, value_signed_as, variable-signed_as}
use Rattle.state_maps.specs.States.{State}
use Rattle.state_maps.proofs.WithinLaws.{within_laws, within-gate_at, within-latch_at}
use Rattle.map_circuits.specs.Growing.{Extends, IsConjunction}
use Rattle.map_circuits.specs.Following.{AreWithin, Follows, IsCovered, entry_of, literal_at, state_of}

-- no member, and no latch, comes before the first latch
pub source-from : (g : Graph) (held set : List ℕ) → IsClosedSet g held set → (w : ℕ) → IsLatchOrIn g set w → first_latch g ≤ w
source-from g held set closed w (inl latch) = (latch_place g w latch.0 latch.1).from
source-from g held set closed w (inr inside) =
    let gate = closed.closed.passable w inside in
    let place : GatePlace g w gate.0 = gate_place g w gate.0 gate.1 in
    omega (arith, place.from)

-- no member comes before the first one
pub none-before : (xs : List ℕ) (end w : ℕ) → IsStrictlyIncreasing xs → w < get_or xs 0 end → Contains xs w → ⊥
none-before xs end w rising below (i, within, is) = elim (cases_eq i 0) [
  | inl same ↦ (
      let here : get_or xs i w ≡ get_or xs 0 end = ap (λ (k : ℕ). get_or xs k w) same ∙ get_or_default xs 0 w end (omega arith) in
      omega arith)
  | inr other ↦ (
      let less : get_or xs 0 end < get_or xs i end = AllPairs-from_increasing xs rising 0 i end (omega arith) within in
      let here : get_or xs i w ≡ get_or xs i end = get_or_default xs i w end within in
      omega arith)
]

-- no member lies between one and the next, or after the last one
pub none-between : (xs : List ℕ) (end k w : ℕ) → IsStrictlyIncreasing xs → k < length xs → get_or xs k 0 < w → w < get_or xs (k + 1) end → Contains xs w → ⊥
none-between xs end k w rising inside above below (i, within, is) = elim (cases_lt i (k + 1)) [
  | inl low ↦ (
      let here : get_or xs i w ≡ get_or xs i 0 = get_or_default xs i w 0 within in
      elim (cases_eq i k) [
        | inl same ↦ (let there : get_or xs i 0 ≡ get_or xs k 0 = ap (λ (j : ℕ). get_or xs j 0) same in omega arith)
        | inr other ↦ (let less : get_or xs i 0 < get_or xs k 0 = AllPairs-from_increasing xs rising i k 0 (omega arith) inside in omega arith)
      ])
  | inr high ↦ (
      let here : get_or xs i w ≡ get_or xs i end = get_or_default xs i w end within in
      elim (cases_eq i (k + 1)) [
        | inl same ↦ (let there : get_or xs i end ≡ get_or xs (k + 1) end = ap (λ (j : ℕ). get_or xs j end) same in omega arith)
        | inr other ↦ (let less : get_or xs (k + 1) end < get_or xs i end = AllPairs-from_increasing xs rising (k + 1) i end (omega arith) within in omega arith)
      ])
]

-- a member as a loop reads it
pub member-at : (set vars : List ℕ) (k : ℕ) → vars ≡ set → k < length vars → Contains set (get_or vars k 0)
member-at set vars k same within =
    let v : ℕ = get_or vars k 0 in
    subst (λ (ws : List ℕ). Contains ws v) same (k, within, get_or_default vars k v 0 within)

-- the list of members is read as the list that a loop goes through
pub at-place : (set vars : List ℕ) (k end : ℕ) → vars ≡ set → k < length vars → get_or set k end ≡ get_or vars k 0
at-place set vars k end same within =
    get_or_default set k end 0 (subst (λ (ws : List ℕ). k < length ws) same within) ∙ ap (λ (ws : List ℕ). get_or ws k 0) (sym same)

-- a member's gate, read by its place among the gates
pub gate-read : (g : Graph) (held set : List ℕ) → IsClosedSet g held set → (v start : ℕ) (own : List Gate) (gate : Gate) → own ≡ g.gates → start ≡ first_gate g → Contains set v
    → gate ≡ get_or own (v - start) gate → gate_at g v ≡ Some gate
gate-read g held set closed v start own gate same starts member read =
    let there = closed.closed.passable v member in
    let place : GatePlace g v there.0 = gate_place g v there.0 there.1 in
    let here : v - start ≡ v - first_gate g = ap (λ (n : ℕ). v - n) starts in
    let is : gate ≡ there.0 = read ∙ ap (λ (gates : List Gate). get_or gates (v - start) gate) same ∙ ap (λ (k : ℕ). get_or g.gates k gate) here ∙ get_or_from_slice_get g.gates (v - first_gate g) there.0 gate place.there in
    there.1 ∙ ap (λ (x : Gate). Some x) (sym is)

-- what a member reads has an entry
pub fan_ins-covered : (g : Graph) (held set : List ℕ) → IsGraph g → IsClosedSet g held set → (v first : ℕ) (gate : Gate) (literals : List ℕ) → gate_at g v ≡ Some gate → first ≡ first_latch g
    → first_latch g + length literals ≡ variables_end g → Contains set v → IsCovered first literals (variable gate.rhs0) × IsCovered first literals (variable gate.rhs1)
fan_ins-covered g held set valid closed v first gate literals there starts long member =
    let sources = closed.closed.fan_ins v gate member there in
    let at : IsGateAt v gate = gate_at-is g valid v gate there in
    let place : GatePlace g v gate = gate_place g v gate there in
    let from0 : first_latch g ≤ variable gate.rhs0 = source-from g held set closed (variable gate.rhs0) sources.0 in
    let from1 : first_latch g ≤ variable gate.rhs1 = source-from g held set closed (variable gate.rhs1) sources.1 in (
      (omega (arith, starts, from0), omega (arith, starts, from0, at.below, place.below, long)),
      (omega (arith, starts, from1), omega (arith, starts, from1, at.below, at.ordered, place.below, long)),
    )

-- the substitute of a literal whose variable has an entry is a literal of the graph, if all entries
-- are
pub literal-within : (h : Graph) (first : ℕ) (literals : List ℕ) (lit : ℕ) → All (λ l. IsLiteralOf h l) literals → variable lit - first < length literals → IsLiteralOf h (literal_at first literals lit)
literal-within h first literals lit all less =
    let same : variable (literal_at first literals lit) ≡ variable (entry_of first literals (variable lit)) = variable-signed_as lit (entry_of first literals (variable lit)) in
    let here : IsLiteralOf h (entry_of first literals (variable lit)) = all (variable lit - first) 0 less in
    subst (λ (w : ℕ). w < variables_end h) (sym same) here

-- what stands for a literal of a latch, or of a member below n, is a literal of the graph
pub source-within : (h c : Graph) (set : List ℕ) (n : ℕ) (literals : List ℕ) (lit : ℕ) → AreWithin h c set n literals → variable lit < n → IsLatchOrIn c set (variable lit)
    → IsLiteralOf h (literal_at (first_latch c) literals lit)
source-within h c set n literals lit all less source =
    let same : variable (literal_at (first_latch c) literals lit) ≡ variable (entry_of (first_latch c) literals (variable lit)) = variable-signed_as lit (entry_of (first_latch c) literals (variable lit)) in
    let here : IsLiteralOf h (entry_of (first_latch c) literals (variable lit)) = all (variable lit) less source in
    subst (λ (w : ℕ). w < variables_end h) (sym same) here

-- what stands for the fan-ins of a member is literals of the graph
pub fan_ins-within : (h c : Graph) (held set : List ℕ) → IsGraph c → IsClosedSet c held set → (v first : ℕ) (gate : Gate) (literals : List ℕ) → gate_at c v ≡ Some gate → first ≡ first_latch c
    → Contains set v → AreWithin h c set v literals → IsLiteralOf h (literal_at first literals gate.rhs0) × IsLiteralOf h (literal_at first literals gate.rhs1)
fan_ins-within h c held set valid closed v first gate literals there starts member all =
    let sources = closed.closed.fan_ins v gate member there in
    let at : IsGateAt v gate = gate_at-is c valid v gate there in
    let P : ℕ → Type 0 = λ f. IsLiteralOf h (literal_at f literals gate.rhs0) × IsLiteralOf h (literal_at f literals gate.rhs1) in
    subst P (sym starts) (source-within h c set v literals gate.rhs0 all at.below sources.0, source-within h c set v literals gate.rhs1 all (omega (arith, at.below, at.ordered)) sources.1)

module _ (c : Graph) (held set : List ℕ) (closed : IsClosedSet c held set) where
  -- before the first gate the entries are literals if they are the functions of the latches,
  -- whatever those of the gates
  pub within-start : (h : Graph) (functions literals : List ℕ) → ((j : ℕ) → j < length functions → get_or literals j 0 ≡ get_or functions j 0) → length functions ≡ length c.latches
      → All (λ l. IsLiteralOf h l) functions → AreWithin h c set (first_gate c) literals
  within-start h functions literals front many all v less source = elim source [
    | inl latch ↦ (
        let place : LatchPlace c v latch.0 = latch_place c v latch.0 latch.1 in
        let inside : v - first_latch c < length functions = omega (arith, place.from, place.below, many) in
        subst (λ (l : ℕ). IsLiteralOf h l) (sym (front (v - first_latch c) inside)) (all (v - first_latch c) 0 inside))
    | inr inside ↦ (
        let gate = closed.closed.passable v inside in
        let place : GatePlace c v gate.0 = gate_place c v gate.0 gate.1 in
        absurd (omega (arith, place.from, less)))
  ]

  -- if no member lies from n up to m, what holds below n holds below m
  within-skip : (h : Graph) (literals : List ℕ) (n m : ℕ) → first_gate c ≤ n → ((w : ℕ) → n ≤ w → w < m → Contains set w → ⊥) → AreWithin h c set n literals → AreWithin h c set m literals
  within-skip h literals n m from none_there p w less source = elim (cases_lt w n) [
    | inl below ↦ p w below source
    | inr above ↦ elim source [
      | inl latch ↦ (
          let place : LatchPlace c w latch.0 = latch_place c w latch.0 latch.1 in
          absurd (omega (arith, place.below)))
      | inr inside ↦ absurd (none_there w above less inside)
    ]
  ]

  -- before the first member
  pub within-first : (h : Graph) (literals : List ℕ) → AreWithin h c set (first_gate c) literals → AreWithin h c set (get_or set 0 (variables_end c)) literals
  within-first h literals p =
      within-skip h literals (first_gate c) (get_or set 0 (variables_end c)) (omega arith) (λ w from less inside. none-before set (variables_end c) w closed.rising less inside) p

  -- with a literal as a member's entry, below the next variable
  within-one : (h i : Graph) (literals : List ℕ) (v lit : ℕ) (gate : Gate) → gate_at c v ≡ Some gate → first_latch c + length literals ≡ variables_end c → Extends h i → IsLiteralOf i lit
      → AreWithin h c set v literals → AreWithin i c set (v + 1) (put literals (v - first_latch c) lit)
  within-one h i literals v lit gate there long more is p w less source =
      let place : GatePlace c v gate = gate_place c v gate there in
      elim (cases_eq w v) [
        | inl same ↦ (
            let here : entry_of (first_latch c) (put literals (v - first_latch c) lit) v ≡ lit = get_or-set_same literals (v - first_latch c) lit 0 (omega (arith, long, place.from, place.below)) in
            let Q : ℕ → Type 0 = λ u. IsLiteralOf i (entry_of (first_latch c) (put literals (v - first_latch c) lit) u) in
            subst Q (sym same) (subst (λ (l : ℕ). IsLiteralOf i l) (sym here) is))
        | inr other ↦ (
            let from : first_latch c ≤ w = source-from c held set closed w source in
            let kept : entry_of (first_latch c) (put literals (v - first_latch c) lit) w ≡ entry_of (first_latch c) literals w =
            get_or-set_other literals (v - first_latch c) (w - first_latch c) lit 0 (λ e. other (omega (arith, e, from, place.from))) in
            subst (λ (l : ℕ). IsLiteralOf i l) (sym kept) (more.literals (entry_of (first_latch c) literals w) (p w (omega (arith, less, other)) source)))
      ]

  -- with that of the member at a place, below the next member
  pub within-more : (h i : Graph) (literals vars : List ℕ) (k lit : ℕ) (gate : Gate) → vars ≡ set → k < length vars → gate_at c (get_or vars k 0) ≡ Some gate
      → first_latch c + length literals ≡ variables_end c → Extends h i → IsLiteralOf i lit → AreWithin h c set (get_or set k (variables_end c)) literals
      → AreWithin i c set (get_or set (k + 1) (variables_end c)) (put literals (get_or vars k 0 - first_latch c) lit)
  within-more h i literals vars k lit gate same within there long more is p =
      let v : ℕ = get_or vars k 0 in
      let inside : k < length set = omega (arith, within, ap (λ (ws : List ℕ). length ws) same) in
      let place : GatePlace c v gate = gate_place c v gate there in
      let one : AreWithin i c set (v + 1) (put literals (v - first_latch c) lit) =
      within-one h i literals v lit gate there long more is (subst (λ (n : ℕ). AreWithin h c set n literals) (at-place set vars k (variables_end c) same within) p) in
      let none_there : (w : ℕ) → v + 1 ≤ w → w < get_or set (k + 1) (variables_end c) → Contains set w → ⊥ =
      λ w from less member. none-between set (variables_end c) k w closed.rising inside (omega (arith, from, ap (λ (ws : List ℕ). get_or ws k 0) same)) less member in
      within-skip i (put literals (v - first_latch c) lit) (v + 1) (get_or set (k + 1) (variables_end c)) (omega (arith, place.from)) none_there one

module _ (g c : Graph) (functions held set : List ℕ) (valid : IsGraph c) (closed : IsClosedSet c held set) where
  abbrev none : ℕ → Bool
  none = λ j. false

  -- before the first gate the functions of the latches follow the circuit, whatever stands for the
  -- gates
  pub follows-start : (literals : List ℕ) → ((j : ℕ) → j < length functions → get_or literals j 0 ≡ get_or functions j 0) → first_latch c + length literals ≡ variables_end c
      → length functions ≡ length c.latches → All (λ l. IsLiteralOf g l) functions → Follows g functions c set (first_gate c) g literals
  follows-start literals front long many all = record {
    long = long;
    latches = λ j less. front j (omega (arith, less, many));
    within = within-start c held set closed g functions literals front many all;
    values = λ s v less source. elim source [
      | inl latch ↦ (
          let place : LatchPlace c v latch.0 = latch_place c v latch.0 latch.1 in
          let inside : v - first_latch c < length functions = omega (arith, place.from, place.below, many) in
          ap (value_within g s none) (front (v - first_latch c) inside)
          ∙ sym (within-latch_at c valid none (state_of g functions s) v latch.0 latch.1
          ∙ get_or-map (value_within g s none) functions (v - first_latch c) 0 false inside))
      | inr inside ↦ (
          let gate = closed.closed.passable v inside in
          let place : GatePlace c v gate.0 = gate_place c v gate.0 gate.1 in
          absurd (omega (arith, place.from, less)))
    ];
  }

  -- if no member lies from n up to m, entries that follow below n follow below m
  follows-skip : (h : Graph) (literals : List ℕ) (n m : ℕ) → first_gate c ≤ n → ((w : ℕ) → n ≤ w → w < m → Contains set w → ⊥) → Follows g functions c set n h literals
      → Follows g functions c set m h literals
  follows-skip h literals n m from none_there p = record {
    long = p.long;
    latches = p.latches;
    within = within-skip c held set closed h literals n m from none_there p.within;
    values = λ s w less source. elim (cases_lt w n) [
      | inl below ↦ p.values s w below source
      | inr above ↦ elim source [
        | inl latch ↦ (
            let place : LatchPlace c w latch.0 = latch_place c w latch.0 latch.1 in
            absurd (omega (arith, place.below)))
        | inr inside ↦ absurd (none_there w above less inside)
      ]
    ];
  }

  -- before the first member
  pub follows-first : (h : Graph) (literals : List ℕ) → Follows g functions c set (first_gate c) h literals → Follows g functions c set (get_or set 0 (variables_end c)) h literals
  follows-first h literals p =
      follows-skip h literals (first_gate c) (get_or set 0 (variables_end c)) (omega arith) (λ w from less inside. none-before set (variables_end c) w closed.rising less inside) p

  -- the literal that stands for a fan-in has its value
  fan_in-value : (h : Graph) (literals : List ℕ) (n : ℕ) → IsGraph h → Follows g functions c set n h literals → (s : State) (lit : ℕ) → variable lit < n → IsLatchOrIn c set (variable lit)
      → value_within h s none (literal_at (first_latch c) literals lit) ≡ value_within c none (state_of g functions s) lit
  fan_in-value h literals n graph p s lit less source =
      value_signed_as (value_within h s none) (within_laws h graph s none).negation lit (entry_of (first_latch c) literals (variable lit))
      ∙ ap (signed lit) (p.values s (variable lit) less source)
      ∙ sym (value_signed (value_within c none (state_of g functions s)) (within_laws c valid none (state_of g functions s)).negation lit)

  -- with the conjunction of a member's fan-ins' literals as its entry, the entries follow below the
  -- next variable
  follows-one : (h i : Graph) (literals new : List ℕ) (v lit : ℕ) (gate : Gate) → gate_at c v ≡ Some gate → Contains set v → IsGraph h → Follows g functions c set v h literals → Extends h i
      → IsConjunction i (literal_at (first_latch c) literals gate.rhs0) (literal_at (first_latch c) literals gate.rhs1) lit
      → new ≡ put literals (v - first_latch c) lit → Follows g functions c set (v + 1) i new
  follows-one h i literals new v lit gate there member graph p more is written =
      let P : List ℕ → Type 0 = λ ls. Follows g functions c set (v + 1) i ls in
      subst P (sym written) (record {
        long = omega (arith, p.long, length-set literals (v - first_latch c) lit);
        latches = λ j less. get_or-set_other literals (v - first_latch c) j lit 0 (λ e. absurd (omega (arith, e, less, place.from))) ∙ p.latches j less;
        within = within-one c held set closed h i literals v lit gate there p.long more is.within p.within;
        values = values-more;
      })
    where
      place : GatePlace c v gate
      place = gate_place c v gate there

      at : IsGateAt v gate
      at = gate_at-is c valid v gate there

      here : (s : State) → value_within i s none (entry_of (first_latch c) (put literals (v - first_latch c) lit) v) ≡ value_within c none (state_of g functions s) (2 * v)
      here s =
          let sources = closed.closed.fan_ins v gate member there in
          let first : value_within i s none (literal_at (first_latch c) literals gate.rhs0) ≡ value_within c none (state_of g functions s) gate.rhs0 =
          more.values s none (literal_at (first_latch c) literals gate.rhs0)
          (source-within h c set v literals gate.rhs0 p.within at.below sources.0)
          ∙ fan_in-value h literals v graph p s gate.rhs0 at.below sources.0 in
          let second : value_within i s none (literal_at (first_latch c) literals gate.rhs1) ≡ value_within c none (state_of g functions s) gate.rhs1 =
          more.values s none (literal_at (first_latch c) literals gate.rhs1)
          (source-within h c set v literals gate.rhs1 p.within (omega (arith, at.below, at.ordered)) sources.1)
          ∙ fan_in-value h literals v graph p s gate.rhs1 (omega (arith, at.below, at.ordered)) sources.1 in
          ap (value_within i s none) (get_or-set_same literals (v - first_latch c) lit 0 (omega (arith, p.long, place.from, place.below)))
          ∙ is.is s none
          ∙ ap (λ (b : Bool). b && value_within i s none (literal_at (first_latch c) literals gate.rhs1)) first
          ∙ ap (λ (b : Bool). value_within c none (state_of g functions s) gate.rhs0 && b) second
          ∙ sym (within-gate_at c valid none (state_of g functions s) v gate there)

      values-more : (s : State) (w : ℕ) → w < v + 1 → IsLatchOrIn c set w
          → value_within i s none (entry_of (first_latch c) (put literals (v - first_latch c) lit) w) ≡ value_within c none (state_of g functions s) (2 * w)
      values-more s w less source = elim (cases_eq w v) [
        | inl same ↦ (
            let Q : ℕ → Type 0 = λ u. value_within i s none (entry_of (first_latch c) (put literals (v - first_latch c) lit) u) ≡ value_within c none (state_of g functions s) (2 * u) in
            subst Q (sym same) (here s))
        | inr other ↦ (
            let from : first_latch c ≤ w = source-from c held set closed w source in
            ap (value_within i s none) (get_or-set_other literals (v - first_latch c) (w - first_latch c) lit 0 (λ e. other (omega (arith, e, from, place.from))))
            ∙ more.values s none (entry_of (first_latch c) literals w) (p.within w (omega (arith, less, other)) source)
            ∙ p.values s w (omega (arith, less, other)) source)
      ]

  -- with that of the member at a place, they follow below the next member
  pub follows-more : (h i : Graph) (literals new vars : List ℕ) (k lit : ℕ) (gate : Gate) → vars ≡ set → k < length vars → gate_at c (get_or vars k 0) ≡ Some gate → IsGraph h
      → Follows g functions c set (get_or set k (variables_end c)) h literals → Extends h i
      → IsConjunction i (literal_at (first_latch c) literals gate.rhs0) (literal_at (first_latch c) literals gate.rhs1) lit
      → new ≡ put literals (get_or vars k 0 - first_latch c) lit → Follows g functions c set (get_or set (k + 1) (variables_end c)) i new
  follows-more h i literals new vars k lit gate same within there graph p more is written =
      let v : ℕ = get_or vars k 0 in
      let inside : k < length set = omega (arith, within, ap (λ (ws : List ℕ). length ws) same) in
      let here : get_or set k (variables_end c) ≡ v = get_or_default set k (variables_end c) 0 inside ∙ ap (λ (ws : List ℕ). get_or ws k 0) (sym same) in
      let place : GatePlace c v gate = gate_place c v gate there in
      let P : ℕ → Type 0 = λ n. Follows g functions c set n h literals in
      let one : Follows g functions c set (v + 1) i new = follows-one h i literals new v lit gate there (member-at set vars k same within) graph (subst P here p) more is written in
      let none_there : (w : ℕ) → v + 1 ≤ w → w < get_or set (k + 1) (variables_end c) → Contains set w → ⊥ =
      λ w from less member. none-between set (variables_end c) k w closed.rising inside (omega (arith, from, ap (λ (ws : List ℕ). get_or ws k 0) same)) less member in
      follows-skip i new (v + 1) (get_or set (k + 1) (variables_end c)) (omega (arith, place.from)) none_there one

  -- past the last member they follow below every variable
  pub follows-all : (h : Graph) (literals vars : List ℕ) (k : ℕ) → vars ≡ set → length vars ≤ k → Follows g functions c set (get_or set k (variables_end c)) h literals
      → Follows g functions c set (variables_end c) h literals
  follows-all h literals vars k same end p =
      let P : ℕ → Type 0 = λ n. Follows g functions c set n h literals in
      subst P (get_or_past set k (variables_end c) (omega (arith, end, ap (λ (ws : List ℕ). length ws) same))) p
