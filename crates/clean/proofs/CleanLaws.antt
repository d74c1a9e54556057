-- A circuit that a pass leaves unchanged is normalised.
use Rattle.std.proofs.Common.{ℕ, ◌+◌, ◌*◌, ◌<◌, ◌≤◌, ◌≡◌, inl, inr, List, [], ◌∷◌, ◌++◌, length, Bool, true, false, not, ◌||◌, cond, nat_eq, Option, Some, None, slice_get, get_or, refl, arith, ap, sym, ◌∙◌, subst}
use Rattle.std.specs.List.{All}
use Rattle.std.specs.Map.{lookup}
use Rattle.std.proofs.lemmas.Bool.{cases_Bool, cases_lt, cases_eq, both_ways, cond-true, cond-false, and_from, or_from, eq-eqb, ne_eqb}
use Rattle.std.proofs.lemmas.Option.{none-some, same_Some, slice_get_within}
use Rattle.std.proofs.lemmas.List.{length_push, get_or_append_left, get_or_push}
use Rattle.aig_graph.specs.declared.graph.Gate.{Gate}
use Rattle.aig_graph.specs.declared.graph.Latch.{Latch}
use Rattle.aig_graph.specs.declared.graph.Reset.{Reset}
use Rattle.aig_graph.specs.declared.graph.Reset.TheVariants.{Zero, One, Free}
use Rattle.aig_graph.specs.Circuits.{Netlist}
use Rattle.aig_graph.specs.Graph.{Graph, IsGraph, IsGateAt, variable, first_latch, first_gate, variables_end, is_free}
use Rattle.aig_graph.specs.Marking.{has}
use Rattle.cleaned_circuits.specs.Cleaned.{IsPass}
use Rattle.cleaned_circuits.specs.Latches.{constant_of, first_duplicate, is_duplicate, same_latch, is_constant_latch, latch_substitute, same_reset}
use Rattle.cleaned_circuits.specs.Merged.{Merging, same_fan_ins, known_substitute, merge_gate, merge_gates, merged_of, merging_start, replaced_gate, substitutes_of, with_substitute}
use Rattle.cleaned_circuits.specs.Reached.{AreReached, stays}
use Rattle.cleaned_circuits.specs.Trimmed.{new_variable}
use Rattle.cleaned_circuits.proofs.LatchLaws.{constant-even, first_where-least, stands_for, by_constant, by_itself, by_earlier}
use Rattle.cleaned_circuits.proofs.MergedLaws.{replaced-end, replaced-first_latch}
use Rattle.cleaned_circuits.proofs.OwnLaws.{leaf-latch, substitutes-leaf, substitutes-low}
use Rattle.cleaned_circuits.proofs.PassLaws.{IsCircuit}
use Rattle.cleaned_circuits.proofs.SubstituteLaws.{GateIn, IsBelow, below-merge_gate, gate_substitutes, gates-in, length-substitutes_of, merge-all, none-kept, start-below, start-length, with_earlier, with_equal, with_false, with_opposite, with_true, same_fan_ins-self}
use Rattle.cleaned_circuits.proofs.TrimmedLaws.{stays-past, trimmed-end, trimmed-first_latch}
use Rattle.cleaned_circuits.proofs.UnchangedLaws.{count-full, reached-own, replaced_circuit-same}
use Rattle.clean.specs.Normalised.{IsPlain, IsNormalised}
use Rattle.clean.proofs.OwnLaws.{own-gate}

same_reset-refl : (r : Reset) → same_reset r r ≡ true
same_reset-refl Zero = refl
same_reset-refl One = refl
same_reset-refl Free = refl

-- a gate that comes down to no literal is plain
pub plain-none : (kept : List (Gate × ℕ)) (gate : Gate) → gate.rhs1 ≤ gate.rhs0 → known_substitute kept gate ≡ None → IsPlain gate
plain-none kept gate ordered none = elim (cases_eq gate.rhs1 0) [
  | inl zero_in ↦ absurd (none-some 0 (sym none ∙ cond-true (nat_eq gate.rhs1 0) (Some 0) b (eq-eqb gate.rhs1 0 zero_in)))
  | inr more ↦ (
      let at_b : known_substitute kept gate ≡ b = cond-false (nat_eq gate.rhs1 0) (Some 0) b (ne_eqb gate.rhs1 0 more) in
      elim (cases_eq gate.rhs1 1) [
        | inl one_in ↦ absurd (none-some gate.rhs0 (sym none ∙ at_b ∙ cond-true (nat_eq gate.rhs1 1) (Some gate.rhs0) c (eq-eqb gate.rhs1 1 one_in)))
        | inr great ↦ (
            let at_c : known_substitute kept gate ≡ c = at_b ∙ cond-false (nat_eq gate.rhs1 1) (Some gate.rhs0) c (ne_eqb gate.rhs1 1 great) in
            elim (cases_eq gate.rhs0 gate.rhs1) [
              | inl same ↦ absurd (none-some gate.rhs0 (sym none ∙ at_c ∙ cond-true (nat_eq gate.rhs0 gate.rhs1) (Some gate.rhs0) d (eq-eqb gate.rhs0 gate.rhs1 same)))
              | inr other ↦ (
                  let at_d : known_substitute kept gate ≡ d = at_c ∙ cond-false (nat_eq gate.rhs0 gate.rhs1) (Some gate.rhs0) d (ne_eqb gate.rhs0 gate.rhs1 other) in
                  elim (cases_eq (variable gate.rhs0) (variable gate.rhs1)) [
                    | inl opposite ↦ absurd (none-some 0 (sym none ∙ at_d ∙ cond-true (nat_eq (variable gate.rhs0) (variable gate.rhs1)) (Some 0) found (eq-eqb (variable gate.rhs0) (variable gate.rhs1) opposite)))
                    | inr two ↦ record { constant = omega (arith, more, great); apart = omega (arith, two, ordered) }
                  ])
            ])
      ])
]
  where
    found : Option ℕ
    found = lookup (same_fan_ins gate) kept

    d : Option ℕ
    d = cond (nat_eq (variable gate.rhs0) (variable gate.rhs1)) (Some 0) found

    c : Option ℕ
    c = cond (nat_eq gate.rhs0 gate.rhs1) (Some gate.rhs0) d

    b : Option ℕ
    b = cond (nat_eq gate.rhs1 1) (Some gate.rhs0) c

-- what isn't found in a longer list isn't found before, and the last entry fails
pub lookup-none : (test : Gate → Bool) (es : List (Gate × ℕ)) (gate : Gate) (v : ℕ) → lookup test (es ++ (gate, v) ∷ []) ≡ None → (lookup test es ≡ None) × (test gate ≡ false)
lookup-none test [] gate v e = elim (cases_Bool (test gate)) [
  | inl pass ↦ absurd (none-some v (sym e ∙ cond-true (test gate) (Some v) None pass))
  | inr fails ↦ (refl, fails)
]
lookup-none test (e0 ∷ es) gate v e = elim (cases_Bool (test e0.0)) [
  | inl pass ↦ absurd (none-some e0.1 (sym e ∙ cond-true (test e0.0) (Some e0.1) (lookup test (es ++ (gate, v) ∷ [])) pass))
  | inr fails ↦ (
      let rest = lookup-none test es gate v (sym (cond-false (test e0.0) (Some e0.1) (lookup test (es ++ (gate, v) ∷ [])) fails) ∙ e) in
      (cond-false (test e0.0) (Some e0.1) (lookup test es) fails ∙ rest.0, rest.1))
]

-- if each latch stands for itself, none that isn't held is constant or a duplicate of an earlier
-- one
module _ (g : Graph) (held : List ℕ) (own : (j : ℕ) (latch : Latch) → slice_get g.latches j ≡ Some latch → latch_substitute g held j (Some latch) ≡ 2 * (first_latch g + j)) where
  -- if each latch stands for itself, none is constant
  pub latches-moving : (j : ℕ) (latch : Latch) → slice_get g.latches j ≡ Some latch → is_constant_latch g held j latch ≡ false
  latches-moving j latch e = elim (stands_for g held j latch) [
    | by_constant constant_latch there ↦ absurd (omega (arith, own j latch e, there, constant-even latch.reset))
    | by_itself moves there ↦ moves
    | by_earlier i less first duplicate known apart there ↦ absurd (omega (arith, own j latch e, there, less))
  ]

  -- if each latch stands for itself, a known latch that duplicates an earlier one is held
  pub latches-single : (i j : ℕ) (latch : Latch) → i < j → slice_get g.latches i ≡ Some latch → slice_get g.latches j ≡ Some latch → is_free latch ≡ false → has held j ≡ true
  latches-single i j latch less e f known = elim (cases_Bool (has held j)) [
    | inl held_is ↦ held_is
    | inr apart ↦ (
        let mine : ℕ = 2 * (first_latch g + j) in
        let duplicate : ℕ = 2 * (first_latch g + first_duplicate g held j latch) in
        let rest : ℕ = cond (is_free latch || has held j) mine duplicate in
        let here : latch_substitute g held j (Some latch) ≡ duplicate =
        cond-false (is_constant_latch g held j latch) (constant_of latch.reset) rest (latches-moving j latch f)
        ∙ cond-false (is_free latch || has held j) mine duplicate (or_from (is_free latch) (has held j) known apart) in
        let least : first_duplicate g held j latch ≡ j = omega (arith, here, own j latch f) in
        let none : is_duplicate g held latch i (slice_get g.latches i) ≡ false = first_where-least (λ h. is_duplicate g held latch h (slice_get g.latches h)) j i (omega (arith, least, less)) in
        let some : is_duplicate g held latch i (slice_get g.latches i) ≡ true =
        ap (is_duplicate g held latch i) e ∙ and_from (not (is_constant_latch g held i latch)) (same_latch latch latch) (ap not (latches-moving i latch e))
        (and_from (nat_eq latch.next latch.next) (same_reset latch.reset latch.reset) (eq-eqb latch.next latch.next refl) (same_reset-refl latch.reset)) in
        absurd (both_ways (is_duplicate g held latch i (slice_get g.latches i)) none some))
  ]

module _ (g : Graph) (held : List ℕ) (valid : IsGraph g) where
  -- the gates so far are plain, each with a pair of its own, and are found among the kept ones
  record ArePlainSoFar (m : Merging) : Type 0 where
    plain : (k : ℕ) (gate : Gate) → slice_get g.gates k ≡ Some gate → first_gate g + k < length m.substitutes → IsPlain gate
    kept : (k : ℕ) (gate : Gate) → slice_get g.gates k ≡ Some gate → first_gate g + k < length m.substitutes → lookup (same_fan_ins gate) m.kept ≡ None → ⊥
    pairs : (i k : ℕ) (gate : Gate) → slice_get g.gates i ≡ Some gate → slice_get g.gates k ≡ Some gate → i < k → first_gate g + k < length m.substitutes → ⊥

  -- so it is if all entries so far are their own
  record IsPlainWhereOwn (m : Merging) : Type 0 where
    below : IsBelow m
    facts : ((v : ℕ) → v < length m.substitutes → get_or m.substitutes v 0 ≡ 2 * v) → ArePlainSoFar m

  step : (m : Merging) (gate : Gate) → IsPlainWhereOwn m → GateIn g held valid (length m.substitutes) gate → IsPlainWhereOwn (merge_gate m gate)
  step m gate so_far place = record {
    below = below-merge_gate m so_far.below gate (omega (arith, at.below)) (omega (arith, at.below, at.ordered));
    facts = all (known_substitute m.kept (replaced_gate m.substitutes gate)) refl;
  }
    where
      at : IsGateAt (length m.substitutes) gate
      at = place.at

      -- the entries before are their own
      before : (o : Option ℕ) → ((v : ℕ) → v < length (with_substitute m (replaced_gate m.substitutes gate) o).substitutes → get_or (with_substitute m (replaced_gate m.substitutes gate) o).substitutes v 0 ≡ 2 * v)
          → (v : ℕ) → v < length m.substitutes → get_or m.substitutes v 0 ≡ 2 * v
      before (Some substitute) own v h = sym (get_or_append_left m.substitutes (substitute ∷ []) 0 v h) ∙ own v (omega (arith, h, length_push m.substitutes substitute))
      before None own v h = sym (get_or_append_left m.substitutes (2 * length m.substitutes ∷ []) 0 v h) ∙ own v (omega (arith, h, length_push m.substitutes (2 * length m.substitutes)))

      all : (o : Option ℕ) → known_substitute m.kept (replaced_gate m.substitutes gate) ≡ o
          → ((v : ℕ) → v < length (with_substitute m (replaced_gate m.substitutes gate) o).substitutes → get_or (with_substitute m (replaced_gate m.substitutes gate) o).substitutes v 0 ≡ 2 * v)
          → ArePlainSoFar (with_substitute m (replaced_gate m.substitutes gate) o)
      all (Some substitute) some own =
          let same : replaced_gate m.substitutes gate ≡ gate = own-gate m.substitutes (length m.substitutes) gate at (before (Some substitute) own) in
          let known : known_substitute m.kept gate ≡ Some substitute = ap (known_substitute m.kept) (sym same) ∙ some in
          let last : substitute ≡ 2 * length m.substitutes = sym (get_or_push m.substitutes substitute 0 (length m.substitutes) refl) ∙ own (length m.substitutes) (omega (arith, length_push m.substitutes substitute)) in
          let some_in : 0 < length m.substitutes = omega (arith, at.below) in
          elim (gate_substitutes m.kept gate) [
            | with_false a e ↦ absurd (omega (arith, last, some_in, same_Some substitute 0 (sym known ∙ e)))
            | with_true a e ↦ absurd (omega (arith, last, at.below, same_Some substitute gate.rhs0 (sym known ∙ e)))
            | with_equal a e ↦ absurd (omega (arith, last, at.below, same_Some substitute gate.rhs0 (sym known ∙ e)))
            | with_opposite a b e ↦ absurd (omega (arith, last, some_in, same_Some substitute 0 (sym known ∙ e)))
            | with_earlier e ↦ absurd (omega (arith, last, so_far.below.kept gate substitute (sym e ∙ known)))
          ]
      all None none own =
          let same : replaced_gate m.substitutes gate ≡ gate = own-gate m.substitutes (length m.substitutes) gate at (before None own) in
          let unknown : known_substitute m.kept gate ≡ None = ap (known_substitute m.kept) (sym same) ∙ none in
          let facts : ArePlainSoFar m = so_far.facts (before None own) in
          let longer = length_push m.substitutes (2 * length m.substitutes) in
          record {
            plain = λ k other e h. elim (cases_eq (first_gate g + k) (length m.substitutes)) [
              | inl last ↦ (
                  let one : gate ≡ other = gate_at_place k other e last in
                  subst (λ (x : Gate). IsPlain x) one (plain-none m.kept gate at.ordered unknown))
              | inr early ↦ facts.plain k other e (omega (arith, h, longer, early))
            ];
            kept = λ k other e h missing.
                let parts = lookup-none (same_fan_ins other) m.kept (replaced_gate m.substitutes gate) (2 * length m.substitutes) missing in
                elim (cases_eq (first_gate g + k) (length m.substitutes)) [
                  | inl last ↦ (
                      let one : replaced_gate m.substitutes gate ≡ other = same ∙ gate_at_place k other e last in
                      both_ways (same_fan_ins other (replaced_gate m.substitutes gate)) parts.1 (ap (same_fan_ins other) one ∙ same_fan_ins-self other))
                  | inr early ↦ facts.kept k other e (omega (arith, h, longer, early)) parts.0
                ];
            pairs = λ i k other e f less h. elim (cases_eq (first_gate g + k) (length m.substitutes)) [
              | inl last ↦ (
                  let one : gate ≡ other = gate_at_place k other f last in
                  facts.kept i other e (omega (arith, less, last)) (ap (λ (x : Gate). lookup (same_fan_ins x) m.kept) (sym one) ∙ none-kept m.kept gate unknown))
              | inr early ↦ facts.pairs i k other e f less (omega (arith, h, longer, early))
            ];
          }
        where
          gate_at_place : (k : ℕ) (other : Gate) → slice_get g.gates k ≡ Some other → first_gate g + k ≡ length m.substitutes → gate ≡ other
          gate_at_place k other e last =
              let here : k ≡ place.place = omega (arith, last, place.variable_is) in
              same_Some gate other (sym place.there ∙ ap (slice_get g.gates) (sym here) ∙ e)

  facts-all : IsPlainWhereOwn (merge_gates g.gates (merging_start g held))
  facts-all = merge-all (λ m. IsPlainWhereOwn m) (λ v gate. GateIn g held valid v gate) step g.gates (merging_start g held) (gates-in g held valid) (record {
    below = start-below g held;
    facts = λ own. record {
      plain = λ k gate e h. absurd (omega (arith, h, start-length g held));
      kept = λ k gate e h missing. omega (arith, h, start-length g held);
      pairs = λ i k gate e f less h. omega (arith, h, start-length g held);
    };
  })

  module _ (own : (v : ℕ) → v < variables_end g → get_or (substitutes_of g held) v 0 ≡ 2 * v) where
    facts : ArePlainSoFar (merge_gates g.gates (merging_start g held))
    unfolding substitutes_of
    facts = facts-all.facts (λ v h. own v (omega (arith, h, length-substitutes_of g held)))

    within : (k : ℕ) (gate : Gate) → slice_get g.gates k ≡ Some gate → first_gate g + k < length (merge_gates g.gates (merging_start g held)).substitutes
    unfolding substitutes_of
    within k gate e = omega (arith, slice_get_within g.gates k gate e, length-substitutes_of g held)

    -- if each variable stands for itself, each gate is plain
    pub own-plain : (k : ℕ) (gate : Gate) → slice_get g.gates k ≡ Some gate → IsPlain gate
    own-plain k gate e = facts.plain k gate e (within k gate e)

    -- if each variable is its own substitute, no two gates have equal literals
    pub own-pairs : (i k : ℕ) (gate : Gate) → slice_get g.gates i ≡ Some gate → slice_get g.gates k ≡ Some gate → i ≡ k
    own-pairs i k gate e f = elim (cases_lt i k) [
      | inl less ↦ absurd (facts.pairs i k gate e f less (within k gate f))
      | inr more ↦ elim (cases_lt k i) [
        | inl less ↦ absurd (facts.pairs k i gate f e less (within i gate e))
        | inr other ↦ omega (arith, more, other)
      ]
    ]

    -- if each variable stands for itself, so does each latch
    pub substitute-own : (j : ℕ) (latch : Latch) → slice_get g.latches j ≡ Some latch → latch_substitute g held j (Some latch) ≡ 2 * (first_latch g + j)
    substitute-own j latch e =
        let low : j < length g.latches = slice_get_within g.latches j latch e in
        sym (leaf-latch g held j latch e) ∙ sym (substitutes-leaf g held (first_latch g + j) (omega (arith, low))) ∙ own (first_latch g + j) (omega (arith, low))

-- a circuit that a pass of cleaning leaves unchanged is normalised
pub clean-normalised : (held : List ℕ) (c : Netlist) (kept : List ℕ) → IsCircuit c → All (λ j. j < length c.aig.latches) held → IsPass held c c kept held → IsNormalised held c
clean-normalised held c kept valid in_range pass = record {
  reached = λ r holds v past less.
      let P : Netlist → Type 0 = λ x. AreReached x.aig x.props held pass.reached in
      let here : AreReached c.aig c.props held pass.reached = subst P merged pass.are_reached in
      here.least r holds v (sym (stays-past m.aig pass.reached v (omega (arith, past, replaced-first_latch substitutes c.aig))) ∙ full v (omega (arith, less, replaced-end substitutes c.aig)));
  moving = latches-moving c.aig held (substitute-own c.aig held valid.graph owns);
  single = latches-single c.aig held (substitute-own c.aig held valid.graph owns);
  plain = own-plain c.aig held valid.graph owns;
  pairs = own-pairs c.aig held valid.graph owns;
}
  where
    m : Netlist
    m = merged_of held c

    substitutes : List ℕ
    substitutes = substitutes_of c.aig held

    end : new_variable m.aig pass.reached (variables_end m.aig) ≡ variables_end m.aig
    end = omega (
      arith,
      trimmed-end m.aig pass.reached,
      trimmed-first_latch m.aig pass.reached,
      replaced-end substitutes c.aig,
      replaced-first_latch substitutes c.aig,
      ap (λ (x : Netlist). length x.aig.latches) pass.circuit,
      ap (λ (x : Netlist). length x.aig.gates) pass.circuit,
    )

    full : (v : ℕ) → v < variables_end m.aig → stays m.aig pass.reached v ≡ true
    full = count-full (stays m.aig pass.reached) (variables_end m.aig) end

    owns : (v : ℕ) → v < variables_end c.aig → get_or substitutes v 0 ≡ 2 * v
    owns v h = elim (cases_lt v (first_latch c.aig)) [
      | inl low ↦ substitutes-low c.aig held v low
      | inr past ↦ reached-own held c valid (λ j less. in_range j 0 less) pass.reached pass.are_reached v
          (sym (stays-past m.aig pass.reached v (omega (arith, past, replaced-first_latch substitutes c.aig))) ∙ full v (omega (arith, h, replaced-end substitutes c.aig)))
    ]

    merged : merged_of held c ≡ c
    merged = replaced_circuit-same substitutes c valid owns
