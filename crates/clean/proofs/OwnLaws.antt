-- In a normalised circuit each variable stands for itself.
use Rattle.std.proofs.Common.{ℕ, ◌+◌, ◌-◌, ◌*◌, ◌<◌, ◌≡◌, inl, inr, List, [], ◌∷◌, length, true, Option, Some, None, slice_get, get_or, refl, arith, ap, sym, ◌∙◌, subst}
use Rattle.std.specs.Map.{lookup}
use Rattle.std.proofs.lemmas.Bool.{cases_lt, cases_eq, both_ways}
use Rattle.std.proofs.lemmas.Option.{none-some}
use Rattle.std.proofs.lemmas.List.{length_push, get_or_append_left, get_or_push}
use Rattle.aig_graph.specs.declared.graph.Gate.{Gate}
use Rattle.aig_graph.specs.declared.graph.Latch.{Latch}
use Rattle.aig_graph.specs.declared.graph.Reset.{Reset}
use Rattle.aig_graph.specs.Building.{gate_of}
use Rattle.aig_graph.specs.Graph.{IsGraph, IsGateAt, variable, first_latch, first_gate, variables_end}
use Rattle.aig_graph.specs.Circuits.{Netlist}
use Rattle.aig_graph.specs.Value.{signed_as}
use Rattle.aig_graph.proofs.KindLaws.{element}
use Rattle.aig_graph.specs.Marking.{has}
use Rattle.cleaned_circuits.specs.Latches.{leaf_substitute, latch_substitute, is_constant_latch}
use Rattle.cleaned_circuits.specs.Merged.{Merging, same_fan_ins, known_substitute, merge_gate, merge_gates, merging_start, replaced, replaced_gate, substitutes_of, with_substitute}
use Rattle.cleaned_circuits.proofs.LatchLaws.{stands_for, by_constant, by_itself, by_earlier}
use Rattle.cleaned_circuits.proofs.SubstituteLaws.{GateIn, gate_substitutes, gates-in, length-substitutes_of, lookup_push, merge-all, start-entry, start-length, with_earlier, with_equal, with_false, with_opposite, with_true, same_fan_ins-is}
use Rattle.cleaned_circuits.proofs.OwnLaws.{leaf-latch, leaf-low}
use Rattle.clean.specs.Normalised.{IsPlain, IsNormalised}
use Rattle.cleaned_circuits.proofs.UnchangedLaws.{gate-ordered, twice}

-- a gate whose variables stand for themselves stays
pub own-gate : (substitutes : List ℕ) (v : ℕ) (gate : Gate) → IsGateAt v gate → ((w : ℕ) → w < v → get_or substitutes w 0 ≡ 2 * w) → replaced_gate substitutes gate ≡ gate
own-gate substitutes v gate at own =
    let first : replaced substitutes gate.rhs0 ≡ gate.rhs0 = ap (signed_as gate.rhs0) (own (variable gate.rhs0) at.below) ∙ twice gate.rhs0 (variable gate.rhs0) refl in
    let second : replaced substitutes gate.rhs1 ≡ gate.rhs1 = ap (signed_as gate.rhs1) (own (variable gate.rhs1) (omega (arith, at.below, at.ordered))) ∙ twice gate.rhs1 (variable gate.rhs1) refl in
    ap (λ (n : ℕ). gate_of n (replaced substitutes gate.rhs1)) first ∙ ap (λ (n : ℕ). gate_of gate.rhs0 n) second ∙ gate-ordered gate at.ordered

latch-is : (a b : Latch) → a.next ≡ b.next → a.reset ≡ b.reset → a ≡ b
latch-is a b next reset =
    let one : ℕ → Latch = λ n. record { next = n; reset = a.reset } in
    let two : Reset → Latch = λ r. record { next = b.next; reset = r } in
    ap one next ∙ ap two reset

module _ (held : List ℕ) (c : Netlist) (valid : IsGraph c.aig) (normalised : IsNormalised held c) where
  normalised-leaf : (v : ℕ) → v < first_gate c.aig → leaf_substitute c.aig held v ≡ 2 * v
  normalised-leaf v h = elim (cases_lt v (first_latch c.aig)) [
    | inl low ↦ leaf-low c.aig held v low
    | inr past ↦ (
        let j : ℕ = v - first_latch c.aig in
        let there = element c.aig.latches j (omega arith) in
        let place : first_latch c.aig + j ≡ v = omega arith in
        let here : leaf_substitute c.aig held v ≡ latch_substitute c.aig held j (Some there.0) = ap (leaf_substitute c.aig held) (sym place) ∙ leaf-latch c.aig held j there.0 there.1 in
        here ∙ elim (stands_for c.aig held j there.0) [
          | by_constant constant_latch e ↦ absurd (both_ways (is_constant_latch c.aig held j there.0) (normalised.moving j there.0 there.1) constant_latch)
          | by_itself moves e ↦ e ∙ ap (λ (w : ℕ). 2 * w) place
          | by_earlier i less first duplicate known apart e ↦ (
              let same : duplicate.other ≡ there.0 = latch-is duplicate.other there.0 duplicate.next duplicate.reset in
              let held_is : has held j ≡ true = normalised.single i j there.0 less (duplicate.there ∙ ap (λ (l : Latch). Some l) same) there.1 known in
              absurd (both_ways (has held j) apart held_is))
        ])
  ]

  -- all entries so far are their own, and what was kept are earlier gates
  record AreOwnSoFar (m : Merging) : Type 0 where
    each : (v : ℕ) → v < length m.substitutes → get_or m.substitutes v 0 ≡ 2 * v
    kept : (gate : Gate) (w : ℕ) → lookup (same_fan_ins gate) m.kept ≡ Some w → (k : ℕ) × (slice_get c.aig.gates k ≡ Some gate) × (first_gate c.aig + k < length m.substitutes)

  step : (m : Merging) (gate : Gate) → AreOwnSoFar m → GateIn c.aig held valid (length m.substitutes) gate → AreOwnSoFar (merge_gate m gate)
  step m gate so_far place =
      let at : IsGateAt (length m.substitutes) gate = place.at in
      let same : replaced_gate m.substitutes gate ≡ gate = own-gate m.substitutes (length m.substitutes) gate at so_far.each in
      let P : Gate → Type 0 = λ x. AreOwnSoFar (with_substitute m x (known_substitute m.kept x)) in
      subst P (sym same) (go (known_substitute m.kept gate) refl)
    where
      plain : IsPlain gate
      plain = normalised.plain place.place gate place.there

      go : (o : Option ℕ) → known_substitute m.kept gate ≡ o → AreOwnSoFar (with_substitute m gate o)
      go (Some substitute) some = elim (gate_substitutes m.kept gate) [
        | with_false a e ↦ absurd (omega (arith, plain.constant, a))
        | with_true a e ↦ absurd (omega (arith, plain.constant, a))
        | with_equal a e ↦ absurd (omega (arith, plain.apart, a))
        | with_opposite a b e ↦ absurd (omega (arith, plain.apart, b))
        | with_earlier e ↦ (
            let before = so_far.kept gate substitute (sym e ∙ some) in
            let one : before.0 ≡ place.place = normalised.pairs before.0 place.place gate before.1 place.there in
            absurd (omega (arith, one, before.2, place.variable_is)))
      ]
      go None none = record {
        each = λ v h. elim (cases_eq v (length m.substitutes)) [
          | inl last ↦ get_or_push m.substitutes (2 * length m.substitutes) 0 v (sym last) ∙ ap (λ (w : ℕ). 2 * w) (sym last)
          | inr other ↦ (
              let less : v < length m.substitutes = omega (arith, length_push m.substitutes (2 * length m.substitutes), h, other) in
              get_or_append_left m.substitutes (2 * length m.substitutes ∷ []) 0 v less ∙ so_far.each v less)
        ];
        kept = λ other w e. elim (lookup_push (same_fan_ins other) m.kept gate (2 * length m.substitutes) w e) [
          | inl before ↦ (let there = so_far.kept other w before in (there.0, there.1, omega (arith, there.2, length_push m.substitutes (2 * length m.substitutes))))
          | inr here ↦ (
              let one : other ≡ gate = same_fan_ins-is other gate here.0 in
              (place.place, place.there ∙ ap (λ (x : Gate). Some x) (sym one), omega (arith, place.variable_is, length_push m.substitutes (2 * length m.substitutes))))
        ];
      }

  own-all : AreOwnSoFar (merge_gates c.aig.gates (merging_start c.aig held))
  own-all = merge-all (λ m. AreOwnSoFar m) (λ v gate. GateIn c.aig held valid v gate) step c.aig.gates (merging_start c.aig held) (gates-in c.aig held valid) (record {
    each = λ v h. start-entry c.aig held v h ∙ normalised-leaf v (omega (arith, h, start-length c.aig held));
    kept = λ gate w e. absurd (none-some w e);
  })

  -- in a normalised circuit each variable stands for itself in a pass of cleaning
  pub normalised-own : (v : ℕ) → v < variables_end c.aig → get_or (substitutes_of c.aig held) v 0 ≡ 2 * v
  unfolding substitutes_of
  normalised-own v h = own-all.each v (omega (arith, h, length-substitutes_of c.aig held))
