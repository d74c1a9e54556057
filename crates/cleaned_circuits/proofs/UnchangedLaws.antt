-- A pass that removes no latch and no gate changes nothing.
use Rattle.std.proofs.Common.{ℕ, ◌+◌, ◌-◌, ◌*◌, ◌<◌, ◌≤◌, ◌≡◌, inl, inr, suc, zero, List, [], ◌∷◌, length, map, filter, Bool, true, ◌&&◌, nat_eq, Some, slice_get, get_or, refl, arith, ap, sym, ◌∙◌, subst}
use Rattle.std.specs.List.{All}
use Rattle.std.proofs.lemmas.Bool.{cases_Bool, cases_lt, cases_eq, cond-true, eq-eqb, eqb-true, and_from, and_parts}
use Rattle.std.proofs.lemmas.Option.{slice_get_within}
use Rattle.std.proofs.lemmas.List.{get_or_default}
use Rattle.std.proofs.lemmas.List.Elements.{All-head, All-tail, All-map, Contains-get_or}
use Rattle.aig_graph.specs.declared.graph.Gate.{Gate}
use Rattle.aig_graph.specs.declared.graph.Latch.{Latch}
use Rattle.aig_graph.specs.declared.properties.Props.{Props}
use Rattle.aig_graph.specs.declared.properties.Symbol.{Symbol}
use Rattle.aig_graph.specs.Graph.{Graph, IsGateAt, IsLiteralOf, variable, first_latch, first_gate, variables_end}
use Rattle.aig_graph.specs.Circuits.{Netlist}
use Rattle.aig_graph.specs.Streams.{property_literals}
use Rattle.aig_graph.specs.Marking.{has}
use Rattle.aig_graph.specs.Counting.{count_below}
use Rattle.aig_graph.specs.Building.{gate_of}
use Rattle.aig_graph.proofs.SearchLaws.{has_iff_contains}
use Rattle.aig_graph.specs.Value.{signed_as}
use Rattle.aig_graph.proofs.PlacesLaws.{count-pass, count-fail, count-bound}
use Rattle.aig_graph.proofs.KindLaws.{LatchPlace, latch_place, GatePlace, gate_place}
use Rattle.cleaned_circuits.specs.Merged.{replaced, replaced_gate, replaced_latch, replaced_graph, substitutes_of, replaced_circuit, merged_of}
use Rattle.cleaned_circuits.specs.Reached.{stays, HoldsReads, AreReached}
use Rattle.aig_graph.specs.Mapped.{OfProps, mapped_props}
use Rattle.cleaned_circuits.specs.Trimmed.{new_variable, new_position, renumbered, renumbered_latch, renumbered_gate, picked, new_name, trimmed_graph, trimmed_symbols, trimmed_of}
use Rattle.aig_graph.proofs.PropsLaws.{of_literals, literals_within, mapped-literals}
use Rattle.cleaned_circuits.proofs.PassLaws.{IsCircuit, IsCircuit-merged}
use Rattle.cleaned_circuits.proofs.PickedLaws.{count-all}
use Rattle.cleaned_circuits.proofs.OwnLaws.{substitutes-own, substitutes-low, substitutes-held}
use Rattle.cleaned_circuits.proofs.MergedLaws.{replaced-first_latch, replaced-end, from_latch, from_gate}
use Rattle.cleaned_circuits.proofs.TrimmedLaws.{trimmed-end, trimmed-first_latch, stays-past, stays-low, stays-reached}

-- if the count is full, each passes
pub count-full : (p : ℕ → Bool) (n : ℕ) → count_below p n ≡ n → (v : ℕ) → v < n → p v ≡ true
count-full p zero full v h = absurd (omega arith)
count-full p (suc n) full v h = elim (cases_Bool (p n)) [
  | inl pass ↦ elim (cases_eq v n) [
    | inl same ↦ ap p same ∙ pass
    | inr other ↦ count-full p n (omega (arith, count-pass p n pass)) v (omega arith)
  ]
  | inr fails ↦ absurd (omega (arith, count-fail p n fails, count-bound p n))
]

-- a function that leaves the element at each place leaves the list
pub map-fixed : {A : Type 0} (f : A → A) (xs : List A) → ((k : ℕ) (x : A) → slice_get xs k ≡ Some x → f x ≡ x) → map f xs ≡ xs
map-fixed f [] fixed = refl
map-fixed {A} f (x ∷ xs) fixed =
    ap (λ (y : A). y ∷ map f xs) (fixed 0 x refl) ∙ ap (λ (ys : List A). x ∷ ys) (map-fixed f xs (λ k y e. fixed (suc k) y e))

-- a function that leaves what all elements are leaves the list
pub map-fixed_all : {A : Type 0} (P : A → Type 0) (f : A → A) → ((x : A) → P x → f x ≡ x) → (xs : List A) → All P xs → map f xs ≡ xs
map-fixed_all P f fixed [] all = refl
map-fixed_all {A} P f fixed (x ∷ xs) all =
    ap (λ (y : A). y ∷ map f xs) (fixed x (All-head P x xs all)) ∙ ap (λ (ys : List A). x ∷ ys) (map-fixed_all P f fixed xs (All-tail P x xs all))

-- a function that leaves each literal of properties leaves the properties
pub props-fixed : (f : ℕ → ℕ) (P : ℕ → Type 0) (p : Props) → ((lit : ℕ) → P lit → f lit ≡ lit) → All P (property_literals p) → mapped_props f p ≡ p
unfolding mapped_props
props-fixed f P p fixed all =
    let parts : OfProps P p = of_literals P p all in
    let one : List ℕ → Props = λ xs. record { outputs = xs; bad = map f p.bad; constraints = map f p.constraints; justice = map (map f) p.justice; fairness = map f p.fairness } in
    let two : List ℕ → Props = λ xs. record { outputs = p.outputs; bad = xs; constraints = map f p.constraints; justice = map (map f) p.justice; fairness = map f p.fairness } in
    let three : List ℕ → Props = λ xs. record { outputs = p.outputs; bad = p.bad; constraints = xs; justice = map (map f) p.justice; fairness = map f p.fairness } in
    let four : List (List ℕ) → Props = λ xss. record { outputs = p.outputs; bad = p.bad; constraints = p.constraints; justice = xss; fairness = map f p.fairness } in
    let five : List ℕ → Props = λ xs. record { outputs = p.outputs; bad = p.bad; constraints = p.constraints; justice = p.justice; fairness = xs } in
    ap one (map-fixed_all P f fixed p.outputs parts.outputs) ∙ ap two (map-fixed_all P f fixed p.bad parts.bad) ∙ ap three (map-fixed_all P f fixed p.constraints parts.constraints)
    ∙ ap four (map-fixed_all (λ (lits : List ℕ). All P lits) (map f) (map-fixed_all P f fixed) p.justice parts.justice) ∙ ap five (map-fixed_all P f fixed p.fairness parts.fairness)

-- a gate whose larger fan-in is first is the gate of its fan-ins
pub gate-ordered : (gate : Gate) → gate.rhs1 ≤ gate.rhs0 → gate_of gate.rhs0 gate.rhs1 ≡ gate
gate-ordered gate h =
    let first : (gate_of gate.rhs0 gate.rhs1).rhs0 ≡ gate.rhs0 = omega arith in
    let second : (gate_of gate.rhs0 gate.rhs1).rhs1 ≡ gate.rhs1 = omega arith in
    let one : ℕ → Gate = λ n. record { rhs0 = n; rhs1 = (gate_of gate.rhs0 gate.rhs1).rhs1 } in
    let two : ℕ → Gate = λ n. record { rhs0 = gate.rhs0; rhs1 = n } in
    ap one first ∙ ap two second

-- a literal that is itself again
pub twice : (lit v : ℕ) → v ≡ variable lit → signed_as lit (2 * v) ≡ lit
twice lit v e = omega arith

-- if each variable stays, nothing is trimmed
module _ (c : Netlist) (s : ℕ → Bool) (valid : IsCircuit c) (full : (v : ℕ) → v < variables_end c.aig → stays c.aig s v ≡ true) where
  new-same : (v : ℕ) → v ≤ variables_end c.aig → new_variable c.aig s v ≡ v
  new-same v h = count-all (stays c.aig s) v (λ w less. full w (omega arith))

  renumbered-same : (lit : ℕ) → IsLiteralOf c.aig lit → renumbered c.aig s lit ≡ lit
  renumbered-same lit within = twice lit (new_variable c.aig s (variable lit)) (new-same (variable lit) (omega arith))

  picked-all : {A : Type 0} (n : ℕ) (xs : List A) → n + length xs ≤ variables_end c.aig → picked (stays c.aig s) n xs ≡ xs
  unfolding picked
  picked-all n [] h = refl
  picked-all {A} n (x ∷ xs) h =
      cond-true (stays c.aig s n) (x ∷ picked (stays c.aig s) (suc n) xs) (picked (stays c.aig s) (suc n) xs) (full n (omega arith))
      ∙ ap (λ (ys : List A). x ∷ ys) (picked-all (suc n) xs (omega arith))

  latches-same : map (renumbered_latch c.aig s) c.aig.latches ≡ c.aig.latches
  latches-same = map-fixed (renumbered_latch c.aig s) c.aig.latches (λ k latch e.
      let with_next : ℕ → Latch = λ n. record { next = n; reset = latch.reset } in
      ap with_next (renumbered-same latch.next (valid.graph.latches k latch e)))

  gates-same : map (renumbered_gate c.aig s) c.aig.gates ≡ c.aig.gates
  gates-same = map-fixed (renumbered_gate c.aig s) c.aig.gates (λ k gate e.
      let at : IsGateAt (first_gate c.aig + k) gate = valid.graph.gates k gate e in
      let within : k < length c.aig.gates = slice_get_within c.aig.gates k gate e in
      let first : renumbered c.aig s gate.rhs0 ≡ gate.rhs0 = renumbered-same gate.rhs0 (omega arith) in
      let second : renumbered c.aig s gate.rhs1 ≡ gate.rhs1 = renumbered-same gate.rhs1 (omega arith) in
      ap (λ (n : ℕ). gate_of n (renumbered c.aig s gate.rhs1)) first ∙ ap (λ (n : ℕ). gate_of gate.rhs0 n) second ∙ gate-ordered gate at.ordered)

  graph-same : trimmed_graph c.aig s ≡ c.aig
  unfolding trimmed_graph
  graph-same =
      let by_latches : List Latch → Graph = λ ls. record { inputs = c.aig.inputs; latches = ls; gates = map (renumbered_gate c.aig s) (picked (stays c.aig s) (first_gate c.aig) c.aig.gates) } in
      let by_gates : List Gate → Graph = λ gs. record { inputs = c.aig.inputs; latches = c.aig.latches; gates = gs } in
      ap by_latches (ap (map (renumbered_latch c.aig s)) (picked-all (first_latch c.aig) c.aig.latches (omega arith)) ∙ latches-same)
      ∙ ap by_gates (ap (map (renumbered_gate c.aig s)) (picked-all (first_gate c.aig) c.aig.gates (omega arith)) ∙ gates-same)

  names-same : (names : List Symbol) → All (λ name. name.position < length c.aig.latches) names → map (new_name c.aig s) (filter (λ name. s (first_latch c.aig + name.position)) names) ≡ names
  names-same [] below = refl
  names-same (name ∷ names) below =
      let here : name.position < length c.aig.latches = All-head (λ (n : Symbol). n.position < length c.aig.latches) name names below in
      let v : ℕ = first_latch c.aig + name.position in
      let reached : s v ≡ true = sym (stays-past c.aig s v (omega arith)) ∙ full v (omega arith) in
      let rest : List Symbol = filter (λ (n : Symbol). s (first_latch c.aig + n.position)) names in
      let place : new_position c.aig s name.position ≡ name.position = omega (arith, new-same v (omega arith)) in
      let at : ℕ → Symbol = λ n. record { position = n; name = name.name } in
      ap (map (new_name c.aig s)) (cond-true (s v) (name ∷ rest) rest reached)
      ∙ ap (λ (ys : List Symbol). new_name c.aig s name ∷ ys) (names-same names (All-tail (λ (n : Symbol). n.position < length c.aig.latches) name names below))
      ∙ ap (λ (n : ℕ). at n ∷ names) place

  -- if each variable stays, the trimmed circuit is the circuit
  pub trimmed-same : trimmed_of c s ≡ c
  unfolding trimmed_symbols
  trimmed-same =
      let by_graph : Graph → Netlist = λ g. record { aig = g; props = mapped_props (renumbered c.aig s) c.props; symbols = trimmed_symbols c.aig s c.symbols } in
      let by_props : Props → Netlist = λ p. record { aig = c.aig; props = p; symbols = trimmed_symbols c.aig s c.symbols } in
      let with_names : List Symbol → Netlist = λ names. record { aig = c.aig; props = c.props; symbols = record c.symbols { latches = names } } in
      ap by_graph graph-same
      ∙ ap by_props (props-fixed (renumbered c.aig s) (λ lit. IsLiteralOf c.aig lit) c.props renumbered-same (literals_within c.aig c.props valid.netlist.props))
      ∙ ap with_names (names-same c.symbols.latches valid.netlist.symbols.latches.below)

-- if each variable stands for itself, nothing is replaced
module _ (substitutes : List ℕ) (c : Netlist) (valid : IsCircuit c) (own : (v : ℕ) → v < variables_end c.aig → get_or substitutes v 0 ≡ 2 * v) where
  replaced-same : (lit : ℕ) → IsLiteralOf c.aig lit → replaced substitutes lit ≡ lit
  replaced-same lit within = ap (signed_as lit) (own (variable lit) within) ∙ twice lit (variable lit) refl

  -- if each variable stands for itself, the replaced circuit is the circuit
  pub replaced_circuit-same : replaced_circuit substitutes c ≡ c
  unfolding replaced_graph
  replaced_circuit-same =
      let latches : map (replaced_latch substitutes) c.aig.latches ≡ c.aig.latches = map-fixed (replaced_latch substitutes) c.aig.latches (λ k latch e.
      let with_next : ℕ → Latch = λ n. record { next = n; reset = latch.reset } in
      ap with_next (replaced-same latch.next (valid.graph.latches k latch e))) in
      let gates : map (replaced_gate substitutes) c.aig.gates ≡ c.aig.gates = map-fixed (replaced_gate substitutes) c.aig.gates (λ k gate e.
      let at : IsGateAt (first_gate c.aig + k) gate = valid.graph.gates k gate e in
      let within : k < length c.aig.gates = slice_get_within c.aig.gates k gate e in
      let first : replaced substitutes gate.rhs0 ≡ gate.rhs0 = replaced-same gate.rhs0 (omega arith) in
      let second : replaced substitutes gate.rhs1 ≡ gate.rhs1 = replaced-same gate.rhs1 (omega arith) in
      ap (λ (n : ℕ). gate_of n (replaced substitutes gate.rhs1)) first ∙ ap (λ (n : ℕ). gate_of gate.rhs0 n) second ∙ gate-ordered gate at.ordered) in
      let by_latches : List Latch → Netlist = λ ls. record { aig = record { inputs = c.aig.inputs; latches = ls; gates = map (replaced_gate substitutes) c.aig.gates }; props = mapped_props (replaced substitutes) c.props; symbols = c.symbols } in
      let by_gates : List Gate → Netlist = λ gs. record { aig = record { inputs = c.aig.inputs; latches = c.aig.latches; gates = gs }; props = mapped_props (replaced substitutes) c.props; symbols = c.symbols } in
      let by_props : Props → Netlist = λ p. record { aig = c.aig; props = p; symbols = c.symbols } in
      ap by_latches latches ∙ ap by_gates gates
      ∙ ap by_props (props-fixed (replaced substitutes) (λ lit. IsLiteralOf c.aig lit) c.props replaced-same (literals_within c.aig c.props valid.netlist.props))

-- the set of what is reached has no variable that another stands for
module _ (held : List ℕ) (c : Netlist) (valid : IsCircuit c) (in_range : (j : ℕ) → j < length held → get_or held j 0 < length c.aig.latches) where
  abbrev own : ℕ → Bool
  own v = nat_eq (get_or (substitutes_of c.aig held) v 0) (2 * v)

  replaced-own : (lit : ℕ) → IsLiteralOf c.aig lit → own (variable (replaced (substitutes_of c.aig held) lit)) ≡ true
  replaced-own lit within = eq-eqb _ _ (substitutes-own c.aig held valid.graph lit within)

  gate-own : (gate : Gate) → IsLiteralOf c.aig gate.rhs0 → IsLiteralOf c.aig gate.rhs1
      → (own (variable (replaced_gate (substitutes_of c.aig held) gate).rhs0) ≡ true) × (own (variable (replaced_gate (substitutes_of c.aig held) gate).rhs1) ≡ true)
  gate-own gate h0 h1 =
      let a : ℕ = replaced (substitutes_of c.aig held) gate.rhs0 in
      let b : ℕ = replaced (substitutes_of c.aig held) gate.rhs1 in
      let P : ℕ → Type 0 = λ lit. own (variable lit) ≡ true in
      elim (cases_lt a b) [
        | inl less ↦ (
            let large : b ≡ (gate_of a b).rhs0 = omega arith in
            let small : a ≡ (gate_of a b).rhs1 = omega arith in
            (subst P large (replaced-own gate.rhs1 h1), subst P small (replaced-own gate.rhs0 h0)))
        | inr more ↦ (
            let large : a ≡ (gate_of a b).rhs0 = omega arith in
            let small : b ≡ (gate_of a b).rhs1 = omega arith in
            (subst P large (replaced-own gate.rhs0 h0), subst P small (replaced-own gate.rhs1 h1)))
      ]

  module _ (s : ℕ → Bool) (reached : AreReached (merged_of held c).aig (merged_of held c).props held s) where
    abbrev both : ℕ → Bool
    both v = s v && own v

    -- an input, or a variable of s that stands for itself
    stays-both : (v : ℕ) → stays (merged_of held c).aig s v ≡ true → own v ≡ true → stays (merged_of held c).aig both v ≡ true
    stays-both v stayed owned = elim (cases_lt v (first_latch (merged_of held c).aig)) [
      | inl low ↦ stays-low (merged_of held c).aig both v low
      | inr past ↦ stays-reached (merged_of held c).aig both v (and_from (s v) (own v) (sym (stays-past (merged_of held c).aig s v past) ∙ stayed) owned)
    ]

    properties-own : All (λ lit. own (variable lit) ≡ true) (property_literals (merged_of held c).props)
    properties-own =
        let P : ℕ → Type 0 = λ lit. own (variable lit) ≡ true in
        let f : ℕ → ℕ = replaced (substitutes_of c.aig held) in
        let each : All (λ lit. P (f lit)) (property_literals c.props) = λ k d h. replaced-own (get_or (property_literals c.props) k d) (literals_within c.aig c.props valid.netlist.props k d h) in
        subst (λ (lits : List ℕ). All P lits) (sym (mapped-literals f c.props)) (All-map P f (property_literals c.props) each)

    both-holds : HoldsReads (merged_of held c).aig (merged_of held c).props held both
    both-holds = record {
      all_held = λ k d h.
          let j : ℕ = get_or held k d in
          let at : get_or held k d ≡ get_or held k 0 = get_or_default held k d 0 h in
          let below : j < length c.aig.latches = omega (arith, in_range k h) in
          let has_it : has held j ≡ true = (has_iff_contains held j).1 (Contains-get_or held k d h) in
          let place : first_latch (merged_of held c).aig + j ≡ first_latch c.aig + j = omega (arith, replaced-first_latch (substitutes_of c.aig held) c.aig) in
          and_from (s (first_latch (merged_of held c).aig + j)) (own (first_latch (merged_of held c).aig + j)) (reached.holds.all_held k d h)
          (ap own place ∙ eq-eqb _ _ (substitutes-held c.aig held j below has_it));
      properties = λ k d h.
          let lit : ℕ = get_or (property_literals (merged_of held c).props) k d in
          stays-both (variable lit) (reached.holds.properties k d h) (properties-own k d h);
      gates = λ v gate e told.
          let place : GatePlace (merged_of held c).aig v gate = gate_place (merged_of held c).aig v gate e in
          let k : ℕ = v - first_gate (merged_of held c).aig in
          let from = from_gate (substitutes_of c.aig held) c.aig k gate place.there in
          let old : Gate = from.0 in
          let at : IsGateAt (first_gate c.aig + k) old = valid.graph.gates k old from.1 in
          let within : k < length c.aig.gates = slice_get_within c.aig.gates k old from.1 in
          let owns = gate-own old (omega arith) (omega arith) in
          let reads = reached.holds.gates v gate e (and_parts (s v) (own v) told).0 in (
            stays-both (variable gate.rhs0) reads.0 (ap (λ (x : Gate). own (variable x.rhs0)) from.2 ∙ owns.0),
            stays-both (variable gate.rhs1) reads.1 (ap (λ (x : Gate). own (variable x.rhs1)) from.2 ∙ owns.1),
          );
      latches = λ v latch e told.
          let place : LatchPlace (merged_of held c).aig v latch = latch_place (merged_of held c).aig v latch e in
          let from = from_latch (substitutes_of c.aig held) c.aig (v - first_latch (merged_of held c).aig) latch place.there in
          let within : IsLiteralOf c.aig from.0.next = valid.graph.latches (v - first_latch (merged_of held c).aig) from.0 from.1 in
          stays-both (variable latch.next) (reached.holds.latches v latch e (and_parts (s v) (own v) told).0)
          (ap (λ (x : Latch). own (variable x.next)) from.2 ∙ replaced-own from.0.next within);
    }

    -- so each variable that is reached stands for itself
    pub reached-own : (v : ℕ) → s v ≡ true → get_or (substitutes_of c.aig held) v 0 ≡ 2 * v
    reached-own v e = eqb-true _ _ (and_parts (s v) (own v) (reached.least both both-holds v e)).1

    -- a pass that removes no latch and no gate changes nothing
    pub pass-unchanged : length (trimmed_graph (merged_of held c).aig s).latches ≡ length c.aig.latches → length (trimmed_graph (merged_of held c).aig s).gates ≡ length c.aig.gates
        → trimmed_of (merged_of held c) s ≡ c
    pass-unchanged latches gates =
        let m : Netlist = merged_of held c in
        let substitutes : List ℕ = substitutes_of c.aig held in
        let end : new_variable m.aig s (variables_end m.aig) ≡ variables_end m.aig =
        omega (arith, trimmed-end m.aig s, trimmed-first_latch m.aig s, replaced-end substitutes c.aig, replaced-first_latch substitutes c.aig) in
        let full : (v : ℕ) → v < variables_end m.aig → stays m.aig s v ≡ true = count-full (stays m.aig s) (variables_end m.aig) end in
        let owns : (v : ℕ) → v < variables_end c.aig → get_or substitutes v 0 ≡ 2 * v = λ v h. elim (cases_lt v (first_latch c.aig)) [
          | inl low ↦ substitutes-low c.aig held v low
          | inr past ↦ reached-own v (sym (stays-past m.aig s v (omega (arith, replaced-first_latch substitutes c.aig))) ∙ full v (omega (arith, replaced-end substitutes c.aig)))
        ] in
        trimmed-same m s (IsCircuit-merged held c valid) full ∙ replaced_circuit-same substitutes c valid owns
