-- A sweep and the walk after it mark the least set that holds what it reads.
use Rattle.std.proofs.Common.{ℕ, zero, suc, ◌+◌, ◌-◌, ◌*◌, ◌<◌, ◌≤◌, ◌≡◌, ◌⊎◌, inl, inr, List, [], ◌∷◌, length, map, replicate, Bool, true, false, ◌&&◌, Some, slice_get, get_or, refl, arith, ap, sym, ◌∙◌, subst}
use Rattle.std.specs.List.{All}
use Rattle.std.proofs.lemmas.Bool.{cases_Bool, cases_eq, cases_lt, lt-leb}
use Rattle.std.proofs.lemmas.Option.{none-some, same_Some}
use Rattle.std.proofs.lemmas.List.{length-set, get_or-set_same, get_or-set_other, get_or_past, length-map, get_or-map, length-replicate, get_or-replicate}
use Rattle.std.proofs.lemmas.List.Elements.{All-nil, All-cons, All-head, All-tail, All-map}
use Rattle.aig_graph.specs.declared.graph.Gate.{Gate}
use Rattle.aig_graph.specs.declared.properties.Props.{Props}
use Rattle.aig_graph.specs.Graph.{Graph, IsGraph, IsGateAt, IsLiteralOf, variable, first_latch, first_gate, variables_end, latches_and_gates, gate_at}
use Rattle.aig_graph.specs.Streams.{property_literals}
use Rattle.aig_graph.proofs.KindLaws.{GatePlace, gate_place}
use Rattle.aig_graph.specs.Marking.{mark_at}
use Rattle.cleaned_circuits.specs.Reached.{stays, HoldsReads, AreReached}
use Rattle.cleaned_circuits.proofs.TrimmedLaws.{stays-past, stays-low, stays-reached}
use Rattle.aig_graph.specs.Mapped.{OfProps}
use Rattle.aig_graph.proofs.PropsLaws.{to_literals}
use Rattle.clean.specs.Sweep.{Front, front_end, no_front, is_marked, mark, with_next, reach, reach_in_sweep, reach_all, reads_of, ReadsMarked, IsGateBelow, Sweeps, IsOwed}
use Rattle.clean.proofs.ReadsLaws.{gate-no-latch, to-reads, from-gate, from-latch, reads-gate, reads-within}
use Rattle.clean.proofs.FrontLaws.{reach_new, reach-low, reach-marked, reach-new, sweep-gate, sweep-latch, mark-entry, all-nil, all-cons}

-- ---- one more mark

-- what was marked stays so
pub record Grows (r s : Front) : Type 0 where
  -- what was marked is marked
  pub marks : (v : ℕ) → is_marked r v ≡ true → is_marked s v ≡ true

grows-then : (r s t : Front) → Grows r s → Grows s t → Grows r t
grows-then r s t p q = record { marks = λ v e. q.marks v (p.marks v e) }

grows-same : (r s : Front) → s ≡ r → Grows r s
grows-same r s e = let P : Front → Type 0 = λ t. Grows r t in subst P (sym e) (record { marks = λ v m. m })

-- what stayed by fewer marks stays by more
pub stays-grows : (g : Graph) (r s : Front) → Grows r s → (v : ℕ) → stays g (is_marked r) v ≡ true → stays g (is_marked s) v ≡ true
stays-grows g r s grows v e = elim (cases_lt v (first_latch g)) [
  | inl low ↦ stays-low g (is_marked s) v low
  | inr past ↦ stays-reached g (is_marked s) v (grows.marks v (sym (stays-past g (is_marked r) v past) ∙ e))
]

-- a variable below the entries isn't marked
marked-from : (r : Front) (v : ℕ) → is_marked r v ≡ true → r.first ≤ v
unfolding mark_at
marked-from r v e = elim (cases_lt v r.first) [
  | inl low ↦ (let clash : false ≡ true = sym (ap (λ (b : Bool). b && get_or r.marks (v - r.first) false) (lt-leb r.first v low)) ∙ e in absurd (cc))
  | inr from ↦ from
]

module _ (r : Front) (w : ℕ) (from : r.first ≤ w) (within : w < front_end r) where
  new-here : is_marked (mark r w) w ≡ true
  new-here = mark-entry (mark r w) w from ∙ get_or-set_same r.marks (w - r.first) true false (omega arith)

  new-other : (v : ℕ) → r.first ≤ v → (v ≡ w → ⊥) → is_marked (mark r w) v ≡ is_marked r v
  new-other v low other =
      mark-entry (mark r w) v low ∙ get_or-set_other r.marks (w - r.first) (v - r.first) true false (λ e. other (omega (arith, e))) ∙ sym (mark-entry r v low)

  new-cases : (v : ℕ) → is_marked (mark r w) v ≡ true → (v ≡ w) ⊎ (is_marked r v ≡ true)
  new-cases v e = elim (cases_eq v w) [
    | inl same ↦ inl same
    | inr other ↦ inr (sym (new-other v (marked-from (mark r w) v e) other) ∙ e)
  ]

  new-marks : (v : ℕ) → is_marked r v ≡ true → is_marked (mark r w) v ≡ true
  new-marks v e = elim (cases_eq v w) [
    | inl same ↦ ap (is_marked (mark r w)) same ∙ new-here
    | inr other ↦ new-other v (marked-from r v e) other ∙ e
  ]

reads-still : (g : Graph) (r s : Front) → Grows r s → (v : ℕ) → ReadsMarked g r v → ReadsMarked g s v
reads-still g r s grows v reads = record {
  gate = λ x e. let two = reads.gate x e in (stays-grows g r s grows (variable x.rhs0) two.0, stays-grows g r s grows (variable x.rhs1) two.1);
  latch = λ x e. stays-grows g r s grows (variable x.next) (reads.latch x e);
}

-- what stands in a list stands first in it, or in the rest
in-cons : (xs : List ℕ) (w i v : ℕ) → slice_get (w ∷ xs) i ≡ Some v → (v ≡ w) ⊎ ((j : ℕ) × (slice_get xs j ≡ Some v))
in-cons xs w zero v e = inl (sym (same_Some w v e))
in-cons xs w (suc j) v e = inr (j, e)

module _ (g : Graph) (p : Props) (held : List ℕ) where
  -- ---- variables that each set holds

  module _ (IsReadLater : ℕ → Type 0) where
    -- a variable that every set holds is marked, and waits
    sweeps-new : (r : Front) (w : ℕ) → Sweeps g p held IsReadLater r → ((s : ℕ → Bool) → HoldsReads g p held s → s w ≡ true) → r.first ≤ w → w < front_end r
        → Sweeps g p held IsReadLater (reach_new r w)
    sweeps-new r w sweep owed from h = record {
      first = sweep.first;
      latches = sweep.latches;
      as_long = omega (arith, length-set r.marks (w - r.first) true, sweep.as_long);
      waiting = λ i v e. elim (in-cons r.waiting w i v e) [
        | inl same ↦ ap (is_marked (mark r w)) same ∙ new-here r w from h
        | inr before ↦ new-marks r w from h v (sweep.waiting before.0 v before.1)
      ];
      pending = λ v e. elim (new-cases r w from h v e) [
        | inl same ↦ inl (record { place = zero; there = ap (λ (n : ℕ). Some n) (sym same) })
        | inr before ↦ elim (sweep.pending v before) [
          | inl waits ↦ inl (record { place = suc waits.place; there = waits.there })
          | inr rest ↦ elim rest [
            | inl later ↦ inr (inl later)
            | inr reads ↦ inr (inr (reads-still g r (reach_new r w) (record { marks = new-marks r w from h }) v reads))
          ]
        ]
      ];
      least = λ s holds v e. elim (new-cases r w from h v e) [
        | inl same ↦ ap s same ∙ owed s holds
        | inr before ↦ sweep.least s holds v before
      ];
    }

    -- one that is read later anyway is marked alone
    sweeps-mark : (r : Front) (w : ℕ) → Sweeps g p held IsReadLater r → IsReadLater w → ((s : ℕ → Bool) → HoldsReads g p held s → s w ≡ true) → r.first ≤ w → w < front_end r
        → Sweeps g p held IsReadLater (mark r w)
    sweeps-mark r w sweep later owed from h = record {
      first = sweep.first;
      latches = sweep.latches;
      as_long = omega (arith, length-set r.marks (w - r.first) true, sweep.as_long);
      waiting = λ i v e. new-marks r w from h v (sweep.waiting i v e);
      pending = λ v e. elim (new-cases r w from h v e) [
        | inl same ↦ inr (inl (subst IsReadLater (sym same) later))
        | inr before ↦ elim (sweep.pending v before) [
          | inl waits ↦ inl waits
          | inr rest ↦ elim rest [
            | inl to_come ↦ inr (inl to_come)
            | inr reads ↦ inr (inr (reads-still g r (mark r w) (record { marks = new-marks r w from h }) v reads))
          ]
        ]
      ];
      least = λ s holds v e. elim (new-cases r w from h v e) [
        | inl same ↦ ap s same ∙ owed s holds
        | inr before ↦ sweep.least s holds v before
      ];
    }

    -- what reaching keeps, and what it adds
    pub record Goes (r s : Front) : Type 0 where
      -- what is marked waits, or is read later, or was read
      pub sweeps : Sweeps g p held IsReadLater s
      -- marks have grown
      pub grows : Grows r s

    goes-same : (r s : Front) → Sweeps g p held IsReadLater r → s ≡ r → Goes r s
    goes-same r s sweep e = let P : Front → Type 0 = λ t. Sweeps g p held IsReadLater t in record { sweeps = subst P (sym e) sweep; grows = grows-same r s e }

    marked-same : (r s : Front) (v : ℕ) → s ≡ r → is_marked r v ≡ true → is_marked s v ≡ true
    marked-same r s v e m = ap (λ (t : Front). is_marked t v) e ∙ m

    -- a step to a literal that each set has keeps the sweep, and marks the literal's variable
    abbrev pub StepGoes : Front → ℕ → Front → Type 0
    StepGoes r v s = Goes r s × (stays g (is_marked s) v ≡ true)

    -- reaching a literal that each set has is such a step
    pub reach-goes : (r : Front) (lit : ℕ) → Sweeps g p held IsReadLater r → IsOwed g p held lit → IsLiteralOf g lit → StepGoes r (variable lit) (reach r (variable lit))
    reach-goes r lit sweep owed within = elim (cases_lt (variable lit) r.first) [
      | inl low ↦ (goes-same r (reach r (variable lit)) sweep (reach-low r (variable lit) low), stays-low g (is_marked (reach r (variable lit))) (variable lit) (omega (arith, sweep.first)))
      | inr from ↦ elim (cases_Bool (is_marked r (variable lit))) [
        | inl marked ↦ (
            let same : reach r (variable lit) ≡ r = reach-marked r (variable lit) marked in
            (goes-same r (reach r (variable lit)) sweep same, stays-reached g (is_marked (reach r (variable lit))) (variable lit) (marked-same r (reach r (variable lit)) (variable lit) same marked)))
        | inr fresh ↦ (
            let w : ℕ = variable lit in
            let past : first_latch g ≤ w = omega (arith, sweep.first) in
            let h : w < front_end r = omega (arith, sweep.first, sweep.as_long, within) in
            let same : reach r w ≡ reach_new r w = reach-new r w from fresh in
            let own : (s : ℕ → Bool) → HoldsReads g p held s → s w ≡ true = λ s holds. sym (stays-past g s w past) ∙ owed s holds in
            let P : Front → Type 0 = λ t. Goes r t in (
              subst P (sym same) (record { sweeps = sweeps-new r w sweep own from h; grows = record { marks = new-marks r w from h } }),
              stays-reached g (is_marked (reach r w)) w (marked-same (reach_new r w) (reach r w) w same (new-here r w from h)),
            ))
      ]
    ]

    module _ (step : Front → ℕ → Front) (Fits : ℕ → Type 0) (goes : (r : Front) (lit : ℕ) → Sweeps g p held IsReadLater r → Fits lit → StepGoes r (variable lit) (step r (variable lit))) where
      -- reaching literals by such steps keeps the sweep, and marks their variables
      pub all-goes : (lits : List ℕ) (r : Front) → Sweeps g p held IsReadLater r → All (λ lit. Fits lit) lits
          → Goes r (reach_all step r lits) × All (λ lit. stays g (is_marked (reach_all step r lits)) (variable lit) ≡ true) lits
      all-goes [] r sweep fits = (goes-same r (reach_all step r []) sweep (all-nil step r), All-nil (λ lit. stays g (is_marked (reach_all step r [])) (variable lit) ≡ true))
      all-goes (lit ∷ lits) r sweep fits =
          let s : Front = step r (variable lit) in
          let one = goes r lit sweep (All-head (λ (l : ℕ). Fits l) lit lits fits) in
          let rest = all-goes lits s one.0.sweeps (All-tail (λ (l : ℕ). Fits l) lit lits fits) in
          let both : Goes r (reach_all step s lits) = record { sweeps = rest.0.sweeps; grows = grows-then r s (reach_all step s lits) one.0.grows rest.0.grows } in
          let P : Front → Type 0 = λ t. Goes r t × All (λ (l : ℕ). stays g (is_marked t) (variable l) ≡ true) (lit ∷ lits) in
          subst P (sym (all-cons step r lit lits))
          (both, All-cons (λ (l : ℕ). stays g (is_marked (reach_all step s lits)) (variable l) ≡ true) lit lits (stays-grows g s (reach_all step s lits) rest.0.grows (variable lit) one.1) rest.1)

    -- reaching literals that each set has
    pub reach-all-goes : (lits : List ℕ) (r : Front) → Sweeps g p held IsReadLater r → All (λ lit. IsOwed g p held lit) lits → All (λ lit. IsLiteralOf g lit) lits
        → Goes r (reach_all reach r lits) × All (λ lit. stays g (is_marked (reach_all reach r lits)) (variable lit) ≡ true) lits
    reach-all-goes lits r sweep owed within =
        all-goes reach (λ lit. IsOwed g p held lit × IsLiteralOf g lit) (λ s lit sweeps fits. reach-goes s lit sweeps fits.0 fits.1) lits r sweep (λ k d h. (owed k d h, within k d h))

  -- before a sweep that has come down to n, a gate below n is marked alone
  pub sweep-goes : (n : ℕ) → n ≤ variables_end g → (r : Front) (lit : ℕ) → Sweeps g p held (IsGateBelow g n) r → IsOwed g p held lit → variable lit < n
      → StepGoes (IsGateBelow g n) r (variable lit) (reach_in_sweep r (variable lit))
  sweep-goes n few r lit sweep owed below = elim (cases_lt (variable lit) (r.first + r.latches)) [
    | inl before ↦ (
        let P : Front → Type 0 = λ t. StepGoes (IsGateBelow g n) r (variable lit) t in
        subst P (sym (sweep-latch r (variable lit) before)) (reach-goes (IsGateBelow g n) r lit sweep owed (omega (arith, few, below))))
    | inr from ↦ (
        let w : ℕ = variable lit in
        let P : Front → Type 0 = λ t. StepGoes (IsGateBelow g n) r w t in
        let low : r.first ≤ w = omega (arith, from) in
        let h : w < front_end r = omega (arith, sweep.first, sweep.as_long, few, below) in
        let own : (s : ℕ → Bool) → HoldsReads g p held s → s w ≡ true = λ s holds. sym (stays-past g s w (omega (arith, sweep.first, low))) ∙ owed s holds in
        let later : IsGateBelow g n w = (omega (arith, sweep.first, sweep.latches, from), below) in
        let sweeps : Sweeps g p held (IsGateBelow g n) (mark r w) = sweeps-mark (IsGateBelow g n) r w sweep later own low h in
        subst P (sym (sweep-gate r w from)) (record { sweeps = sweeps; grows = record { marks = new-marks r w low h } }, stays-reached g (is_marked (mark r w)) w (new-here r w low h)))
  ]

  -- reaching literals below n before a sweep that has come down to n
  pub sweep-all-goes : (n : ℕ) → n ≤ variables_end g → (lits : List ℕ) (r : Front) → Sweeps g p held (IsGateBelow g n) r → All (λ lit. IsOwed g p held lit) lits → All (λ lit. variable lit < n) lits
      → Goes (IsGateBelow g n) r (reach_all reach_in_sweep r lits) × All (λ lit. stays g (is_marked (reach_all reach_in_sweep r lits)) (variable lit) ≡ true) lits
  sweep-all-goes n few lits r sweep owed below =
      all-goes (IsGateBelow g n) reach_in_sweep (λ lit. IsOwed g p held lit × (variable lit < n)) (λ s lit sweeps fits. sweep-goes n few s lit sweeps fits.0 fits.1) lits r sweep (λ k d h. (owed k d h, below k d h))

  -- what is read later may change, if marked variables of the kind are of the new one, or were read
  pub sweeps-to : (IsReadLater IsNow : ℕ → Type 0) (r : Front) → ((v : ℕ) → is_marked r v ≡ true → IsReadLater v → IsNow v ⊎ ReadsMarked g r v) → Sweeps g p held IsReadLater r → Sweeps g p held IsNow r
  sweeps-to IsReadLater IsNow r change sweep = record {
    first = sweep.first;
    latches = sweep.latches;
    as_long = sweep.as_long;
    waiting = sweep.waiting;
    pending = λ v e. elim (sweep.pending v e) [
      | inl waits ↦ inl waits
      | inr rest ↦ elim rest [
        | inl later ↦ inr (change v e later)
        | inr reads ↦ inr (inr reads)
      ]
    ];
    least = sweep.least;
  }

  -- ---- the start

  no-marks : (v : ℕ) → is_marked (no_front g) v ≡ true → ⊥
  no-marks v e =
      let n : ℕ = latches_and_gates g in
      let from : first_latch g ≤ v = marked-from (no_front g) v e in
      let entry : get_or (replicate n false) (v - first_latch g) false ≡ true = sym (mark-entry (no_front g) v from) ∙ e in
      elim (cases_lt (v - first_latch g) n) [
        | inl less ↦ (let clash : false ≡ true = sym (get_or-replicate n (v - first_latch g) false false less) ∙ entry in absurd (cc))
        | inr past ↦ (let clash : false ≡ true = sym (get_or_past (replicate n false) (v - first_latch g) false (omega (arith, length-replicate n false))) ∙ entry in absurd (cc))
      ]

  -- nothing is marked at the start
  pub sweeps-start : (IsReadLater : ℕ → Type 0) → Sweeps g p held IsReadLater (no_front g)
  sweeps-start IsReadLater = record {
    first = refl;
    latches = refl;
    as_long = omega (arith, length-replicate (latches_and_gates g) false);
    waiting = λ i v e. absurd (none-some v e);
    pending = λ v e. absurd (no-marks v e);
    least = λ s holds v e. absurd (no-marks v e);
  }

  -- held latches are in each set, and so are the properties
  pub held-owed : All (λ lit. IsOwed g p held lit) (map (λ j. 2 * (first_latch g + j)) held)
  held-owed = All-map (λ lit. IsOwed g p held lit) (λ j. 2 * (first_latch g + j)) held (λ k d h.
      λ s holds.
      let place : variable (2 * (first_latch g + get_or held k d)) ≡ first_latch g + get_or held k d = omega arith in
      ap (stays g s) place ∙ stays-reached g s (first_latch g + get_or held k d) (holds.all_held k d h))

  -- each literal of the properties is in each set that holds what it reads
  pub props-owed : All (λ lit. IsOwed g p held lit) (property_literals p)
  props-owed = λ k d h. λ s holds. holds.properties k d h

  -- what is read keeps
  pub record Sweeping (IsReadLater : ℕ → Type 0) (r : Front) : Type 0 where
    -- what is marked waits, or is read later, or was read
    pub sweeps : Sweeps g p held IsReadLater r
    -- the held latches are marked
    pub held_marked : All (λ j. is_marked r (first_latch g + j) ≡ true) held
    -- the variables of the properties' literals are marked, or stay anyway
    pub properties : All (λ lit. stays g (is_marked r) (variable lit) ≡ true) (property_literals p)

  -- the held latches and the properties are reached first
  pub sweeping-start : (start mid r : Front) (n : ℕ) → n ≡ variables_end g → All (λ j. j < length g.latches) held → OfProps (λ lit. IsLiteralOf g lit) p → start ≡ no_front g
      → mid ≡ reach_all reach start (map (λ j. 2 * (first_latch g + j)) held) → r ≡ reach_all reach_in_sweep mid (property_literals p) → Sweeping (IsGateBelow g n) r
  sweeping-start start mid r n end in_range props begin first second =
      let Later : ℕ → Type 0 = IsGateBelow g n in
      let lits : List ℕ = map (λ j. 2 * (first_latch g + j)) held in
      let held_within : All (λ lit. IsLiteralOf g lit) lits = All-map (λ lit. IsLiteralOf g lit) (λ j. 2 * (first_latch g + j)) held (λ k d h.
      let here : get_or held k d < length g.latches = in_range k d h in
      omega arith) in
      let P : Front → Type 0 = λ t. Sweeps g p held Later t in
      let sweep : Sweeps g p held Later start = subst P (sym begin) (sweeps-start Later) in
      let one = reach-all-goes Later lits start sweep held-owed held_within in
      let S : Front → Type 0 = λ t. Goes Later start t × All (λ lit. stays g (is_marked t) (variable lit) ≡ true) lits in
      let half : Goes Later start mid × All (λ lit. stays g (is_marked mid) (variable lit) ≡ true) lits = subst S (sym first) one in
      let below : All (λ lit. variable lit < n) (property_literals p) = subst (λ (m : ℕ). All (λ (lit : ℕ). variable lit < m) (property_literals p)) (sym end) (to_literals (λ lit. IsLiteralOf g lit) p props) in
      let two = sweep-all-goes n (omega (arith, end)) (property_literals p) mid half.0.sweeps props-owed below in
      let T : Front → Type 0 = λ t. Goes Later mid t × All (λ lit. stays g (is_marked t) (variable lit) ≡ true) (property_literals p) in
      let whole : Goes Later mid r × All (λ lit. stays g (is_marked r) (variable lit) ≡ true) (property_literals p) = subst T (sym second) two in
      record {
        sweeps = whole.0.sweeps;
        held_marked = λ k d h.
            let j : ℕ = get_or held k d in
            let v : ℕ = first_latch g + j in
            let within : k < length lits = omega (arith, length-map held (λ (i : ℕ). 2 * (first_latch g + i))) in
            let read : get_or lits k (2 * (first_latch g + d)) ≡ 2 * v = get_or-map (λ (i : ℕ). 2 * (first_latch g + i)) held k d (2 * (first_latch g + d)) h in
            let place : variable (2 * v) ≡ v = omega arith in
            let here : stays g (is_marked mid) v ≡ true = sym (ap (λ (lit : ℕ). stays g (is_marked mid) (variable lit)) read ∙ ap (stays g (is_marked mid)) place) ∙ half.1 k (2 * (first_latch g + d)) within in
            whole.0.grows.marks v (sym (stays-past g (is_marked mid) v (omega arith)) ∙ here);
        properties = whole.1;
      }

  -- what more marks keep
  sweeping-grows : (IsReadLater IsNow : ℕ → Type 0) (r s : Front) → Sweeping IsReadLater r → Grows r s → Sweeps g p held IsNow s → Sweeping IsNow s
  sweeping-grows IsReadLater IsNow r s sweep grows sweeps = record {
    sweeps = sweeps;
    held_marked = λ i d h. grows.marks (first_latch g + get_or held i d) (sweep.held_marked i d h);
    properties = λ i d h. stays-grows g r s grows (variable (get_or (property_literals p) i d)) (sweep.properties i d h);
  }

  -- what a marked variable reads is in each set
  reads-owed : (v : ℕ) → ((t : ℕ → Bool) → HoldsReads g p held t → t v ≡ true) → All (λ lit. IsOwed g p held lit) (reads_of g v)
  reads-owed v mine = to-reads g (λ lit. IsOwed g p held lit) v
      (λ gate e. ((λ t holds. (holds.gates v gate e (mine t holds)).0), (λ t holds. (holds.gates v gate e (mine t holds)).1)))
      (λ latch e. (λ t holds. holds.latches v latch e (mine t holds)))

  -- if all that a variable reads is marked, its reads are
  to-marked : (v : ℕ) (s : Front) → All (λ lit. stays g (is_marked s) (variable lit) ≡ true) (reads_of g v) → ReadsMarked g s v
  to-marked v s all =
      let P : ℕ → Type 0 = λ lit. stays g (is_marked s) (variable lit) ≡ true in
      record { gate = λ x e. from-gate g P v x all e; latch = λ x e. from-latch g P v x all e }

  -- ---- the sweep

  -- a gate that is marked when the sweep comes to it is read
  pub sweeping-down : IsGraph g → (r s : Front) (n v : ℕ) (gate : Gate) → n ≡ v + 1 → gate_at g v ≡ Some gate → Sweeping (IsGateBelow g n) r → is_marked r v ≡ true
      → s ≡ reach_all reach_in_sweep r (gate.rhs0 ∷ gate.rhs1 ∷ []) → Sweeping (IsGateBelow g v) s
  sweeping-down valid r s n v gate next here sweep marked is =
      let place : GatePlace g v gate = gate_place g v gate here in
      let at : IsGateAt (first_gate g + (v - first_gate g)) gate = valid.gates (v - first_gate g) gate place.there in
      let same : reads_of g v ≡ gate.rhs0 ∷ gate.rhs1 ∷ [] = reads-gate g v gate here in
      let owed : All (λ lit. IsOwed g p held lit) (reads_of g v) = reads-owed v (λ t holds. sweep.sweeps.least t holds v marked) in
      let below : All (λ lit. variable lit < n) (reads_of g v) = to-reads g (λ lit. variable lit < n) v
      (λ x e. reads-below x e)
      (λ x e. absurd (gate-no-latch g v gate x here e)) in
      let goes = sweep-all-goes n (omega (arith, next, place.from, place.below)) (reads_of g v) r sweep.sweeps owed below in
      let Q : Front → Type 0 = λ t. Goes (IsGateBelow g n) r t × All (λ (lit : ℕ). stays g (is_marked t) (variable lit) ≡ true) (reads_of g v) in
      let whole : Q s = subst Q (sym (is ∙ ap (reach_all reach_in_sweep r) (sym same))) goes in
      let reads : ReadsMarked g s v = to-marked v s whole.1 in
      sweeping-grows (IsGateBelow g n) (IsGateBelow g v) r s sweep whole.0.grows
      (sweeps-to (IsGateBelow g n) (IsGateBelow g v) s (λ u e later. elim (cases_eq u v) [
        | inl this ↦ inr (subst (λ (w : ℕ). ReadsMarked g s w) (sym this) reads)
        | inr other ↦ inl (later.0, omega (arith, later.1, next, other))
      ]) whole.0.sweeps)
    where
      reads-below : (x : Gate) → gate_at g v ≡ Some x → (variable x.rhs0 < n) × (variable x.rhs1 < n)
      reads-below x e =
          let place : GatePlace g v x = gate_place g v x e in
          let at : IsGateAt (first_gate g + (v - first_gate g)) x = valid.gates (v - first_gate g) x place.there in
          (omega (arith, at.below, place.from, next), omega (arith, at.below, at.ordered, place.from, next))

  -- one that isn't marked then isn't read
  pub sweeping-skip : (r : Front) (n v : ℕ) → n ≡ v + 1 → is_marked r v ≡ false → Sweeping (IsGateBelow g n) r → Sweeping (IsGateBelow g v) r
  sweeping-skip r n v next unmarked sweep = sweeping-grows (IsGateBelow g n) (IsGateBelow g v) r r sweep (record { marks = λ u m. m })
      (sweeps-to (IsGateBelow g n) (IsGateBelow g v) r (λ u e later. elim (cases_eq u v) [
        | inl this ↦ (let clash : false ≡ true = sym unmarked ∙ ap (is_marked r) (sym this) ∙ e in absurd (cc))
        | inr other ↦ inl (later.0, omega (arith, later.1, next, other))
      ]) sweep.sweeps)

  -- ---- the walk

  -- no variable is read that doesn't wait
  abbrev pub IsNothing : ℕ → Type 0
  IsNothing v = ⊥

  -- below the first gate the sweep reads no gates
  pub sweeping-swept : (r : Front) (n : ℕ) → n ≤ first_gate g → Sweeping (IsGateBelow g n) r → Sweeping IsNothing r
  sweeping-swept r n last sweep = sweeping-grows (IsGateBelow g n) IsNothing r r sweep (record { marks = λ u m. m })
      (sweeps-to (IsGateBelow g n) IsNothing r (λ u e later. absurd (omega (arith, later.0, later.1, last))) sweep.sweeps)

  -- what waits is read later, once it is taken
  sweeps-take : (r : Front) (v : ℕ) → Sweeps g p held IsNothing (with_next r v) → Sweeps g p held (λ u. u ≡ v) r
  sweeps-take r v sweep = record {
    first = sweep.first;
    latches = sweep.latches;
    as_long = sweep.as_long;
    waiting = λ i u e. sweep.waiting (suc i) u e;
    pending = λ u e. elim (sweep.pending u e) [
      | inl waits ↦ elim (in-cons r.waiting v waits.place u waits.there) [
        | inl same ↦ inr (inl same)
        | inr after ↦ inl (record { place = after.0; there = after.1 })
      ]
      | inr rest ↦ elim rest [
        | inl later ↦ absurd later
        | inr reads ↦ inr (inr (record { gate = reads.gate; latch = reads.latch }))
      ]
    ];
    least = sweep.least;
  }

  -- a variable that waits is taken and read
  pub sweeping-more : IsGraph g → (r s t : Front) (v : ℕ) → Sweeping IsNothing r → r ≡ with_next s v → t ≡ reach_all reach s (reads_of g v) → Sweeping IsNothing t
  sweeping-more valid r s t v sweep taken is =
      let Now : ℕ → Type 0 = λ u. u ≡ v in
      let before : Sweeping IsNothing (with_next s v) = subst (λ (u : Front). Sweeping IsNothing u) taken sweep in
      let mine : (x : ℕ → Bool) → HoldsReads g p held x → x v ≡ true = λ x holds. before.sweeps.least x holds v (before.sweeps.waiting zero v refl) in
      let goes = reach-all-goes Now (reads_of g v) s (sweeps-take s v before.sweeps) (reads-owed v mine) (reads-within g valid v) in
      let Q : Front → Type 0 = λ u. Goes Now s u × All (λ (lit : ℕ). stays g (is_marked u) (variable lit) ≡ true) (reads_of g v) in
      let whole : Q t = subst Q (sym is) goes in
      let reads : ReadsMarked g t v = to-marked v t whole.1 in
      sweeping-grows IsNothing IsNothing (with_next s v) t before (record { marks = whole.0.grows.marks })
      (sweeps-to Now IsNothing t (λ u e later. inr (subst (λ (w : ℕ). ReadsMarked g t w) (sym later) reads)) whole.0.sweeps)

  -- if none waits, the marks are of what is reached
  pub sweeping-end : (r : Front) → Sweeping IsNothing r → r.waiting ≡ [] → AreReached g p held (is_marked r)
  sweeping-end r sweep none = record {
    holds = record {
      all_held = sweep.held_marked;
      properties = sweep.properties;
      gates = λ v gate e reached. (reads v reached).gate gate e;
      latches = λ v latch e reached. (reads v reached).latch latch e;
    };
    least = sweep.sweeps.least;
  }
    where
      reads : (v : ℕ) → is_marked r v ≡ true → ReadsMarked g r v
      reads v e = elim (sweep.sweeps.pending v e) [
        | inl waits ↦ absurd (none-some v (sym (ap (λ (xs : List ℕ). slice_get xs waits.place) none) ∙ waits.there))
        | inr rest ↦ elim rest [
          | inl later ↦ absurd later
          | inr done ↦ done
        ]
      ]
