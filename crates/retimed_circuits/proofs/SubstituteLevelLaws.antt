-- What stands for a literal has, in the circuit that reads what stands, at most the level that the
-- literal had.
use Rattle.std.proofs.Common.{ℕ, ◌+◌, ◌*◌, ◌<◌, ◌≤◌, ◌≡◌, inl, inr, suc, List, [], ◌∷◌, ◌++◌, length, Option, Some, None, slice_get, get_or, refl, arith, ap, ap₂, sym, ◌∙◌, subst}
use Rattle.std.specs.Map.{lookup}
use Rattle.std.proofs.lemmas.Bool.{cases_eq}
use Rattle.std.proofs.lemmas.Option.{none-some, same_Some}
use Rattle.std.proofs.lemmas.List.{length_push, get_or_append_left, get_or_push}
use Rattle.aig_graph.specs.declared.graph.Gate.{Gate}
use Rattle.aig_graph.specs.Graph.{Graph, IsGraph, IsGateAt, variable, first_gate, variables_end, gate_at}
use Rattle.aig_graph.specs.Building.{gate_of}
use Rattle.aig_graph.specs.Value.{signed_as}
use Rattle.aig_graph.proofs.FoldingLaws.{gate_at-before, gate_at-first_gate}
use Rattle.cleaned_circuits.specs.Merged.{Merging, replaced, replaced_gate, replaced_graph, same_fan_ins, known_substitute, substitute_or_own, with_substitute, merge_gate, merge_gates, merging_from, substitutes_after}
use Rattle.cleaned_circuits.proofs.SubstituteLaws.{lookup_push, same_fan_ins-is, gate_substitutes, with_false, with_true, with_equal, with_opposite, with_earlier, replaced-variable, length-merge_gate, GateOf, AreLeaves, length-substitutes_after, gates-of, after-within}
use Rattle.cleaned_circuits.proofs.MergedLaws.{IsGraph-replaced, replaced-first_gate, replaced-gate}
use Rattle.path_levels.specs.Levels.{level}
use Rattle.path_levels.proofs.LevelLaws.{level-no_gate, level-gate}
use Rattle.retimed_circuits.proofs.GateLevelLaws.{gate_level, gate_level-gate_of}

-- gates add entries, and change none
substitutes-stay : (gates : List Gate) (m : Merging) (v : ℕ) → v < length m.substitutes → get_or (merge_gates gates m).substitutes v 0 ≡ get_or m.substitutes v 0
unfolding merge_gates
substitutes-stay [] m v h = refl
substitutes-stay (gate ∷ gates) m v h =
    let pair : Gate = replaced_gate m.substitutes gate in
    substitutes-stay gates (merge_gate m gate) v (omega (arith, h, length-merge_gate m gate))
    ∙ get_or_append_left m.substitutes (substitute_or_own (2 * length m.substitutes) (known_substitute m.kept pair) ∷ []) 0 v h

-- by the levels of variables before and after, if the constant has level 0
module _ (before after : ℕ → ℕ) (constant : after 0 ≡ 0) where
  record IsLow (m : Merging) : Type 0 where
    -- what stands for a variable has at most its level
    each : (v : ℕ) → v < length m.substitutes → after (variable (get_or m.substitutes v 0)) ≤ before v
    -- the literal of a kept gate has at most the gate's level
    kept : (gate : Gate) (w : ℕ) → lookup (same_fan_ins gate) m.kept ≡ Some w → after (variable w) ≤ gate_level after gate

  replaced-low : (m : Merging) → IsLow m → (lit : ℕ) → variable lit < length m.substitutes → after (variable (replaced m.substitutes lit)) ≤ before (variable lit)
  replaced-low m low lit h = omega (arith, ap after (replaced-variable m.substitutes lit), low.each (variable lit) h)

  -- what a gate comes down to read has at most the gate's level
  pair-low : (m : Merging) → IsLow m → (gate : Gate) → variable gate.rhs0 < length m.substitutes → variable gate.rhs1 < length m.substitutes
      → gate_level after (replaced_gate m.substitutes gate) ≤ gate_level before gate
  pair-low m low gate h0 h1 = omega (
    arith,
    gate_level-gate_of after (replaced m.substitutes gate.rhs0) (replaced m.substitutes gate.rhs1),
    replaced-low m low gate.rhs0 h0,
    replaced-low m low gate.rhs1 h1,
  )

  -- and so has what stands for the gate
  substitute-low : (kept : List (Gate × ℕ)) (gate : Gate) (substitute : ℕ) → ((w : ℕ) → lookup (same_fan_ins gate) kept ≡ Some w → after (variable w) ≤ gate_level after gate)
      → known_substitute kept gate ≡ Some substitute → after (variable substitute) ≤ gate_level after gate
  substitute-low kept gate substitute known some =
      let P : ℕ → Type 0 = λ lit. after (variable lit) ≤ gate_level after gate in
      let zero_low : P 0 = omega (arith, constant) in
      let first_low : P gate.rhs0 = omega arith in
      elim (gate_substitutes kept gate) [
        | with_false a e ↦ subst P (same_Some 0 substitute (sym e ∙ some)) zero_low
        | with_true a e ↦ subst P (same_Some gate.rhs0 substitute (sym e ∙ some)) first_low
        | with_equal a e ↦ subst P (same_Some gate.rhs0 substitute (sym e ∙ some)) first_low
        | with_opposite a b e ↦ subst P (same_Some 0 substitute (sym e ∙ some)) zero_low
        | with_earlier e ↦ known substitute (sym e ∙ some)
      ]

  entry-low : (m : Merging) → IsLow m → (x : ℕ) → after (variable x) ≤ before (length m.substitutes) → (v : ℕ) → v < length (m.substitutes ++ x ∷ [])
      → after (variable (get_or (m.substitutes ++ x ∷ []) v 0)) ≤ before v
  entry-low m low x last v h =
      let P : ℕ → Type 0 = λ lit. after (variable lit) ≤ before v in
      elim (cases_eq v (length m.substitutes)) [
        | inl same ↦ subst P (sym (get_or_push m.substitutes x 0 v (sym same))) (subst (λ (n : ℕ). after (variable x) ≤ before n) (sym same) last)
        | inr other ↦ (
            let less : v < length m.substitutes = omega (arith, length_push m.substitutes x) in
            subst P (sym (get_or_append_left m.substitutes (x ∷ []) 0 v less)) (low.each v less))
      ]

  -- one more gate, whose level after is that of what it comes down to read
  low-merge_gate : (m : Merging) → IsLow m → (gate : Gate) → variable gate.rhs0 < length m.substitutes → variable gate.rhs1 < length m.substitutes
      → before (length m.substitutes) ≡ gate_level before gate → after (length m.substitutes) ≡ gate_level after (replaced_gate m.substitutes gate) → IsLow (merge_gate m gate)
  low-merge_gate m low gate h0 h1 own own_after = go (known_substitute m.kept (replaced_gate m.substitutes gate)) refl
    where
      go : (o : Option ℕ) → known_substitute m.kept (replaced_gate m.substitutes gate) ≡ o → IsLow (with_substitute m (replaced_gate m.substitutes gate) o)
      go (Some substitute) some = record {
        each = entry-low m low substitute (omega (arith, own, pair-low m low gate h0 h1, substitute-low m.kept (replaced_gate m.substitutes gate) substitute (low.kept (replaced_gate m.substitutes gate)) some));
        kept = low.kept;
      }
      go None none =
          let place : variable (2 * length m.substitutes) ≡ length m.substitutes = omega arith in
          let is : after (variable (2 * length m.substitutes)) ≡ gate_level after (replaced_gate m.substitutes gate) = ap after place ∙ own_after in
          record {
            each = entry-low m low (2 * length m.substitutes) (omega (arith, own, is, pair-low m low gate h0 h1));
            kept = λ other w e. elim (lookup_push (same_fan_ins other) m.kept (replaced_gate m.substitutes gate) (2 * length m.substitutes) w e) [
              | inl earlier ↦ low.kept other w earlier
              | inr last ↦ (
                  let same : gate_level after other ≡ gate_level after (replaced_gate m.substitutes gate) = ap (gate_level after) (same_fan_ins-is other (replaced_gate m.substitutes gate) last.0) in
                  subst (λ (lit : ℕ). after (variable lit) ≤ gate_level after other) last.1 (omega (arith, is, same)))
            ];
          }

-- whatever stands for the variables before the gates
module _ (g : Graph) (leaves : List ℕ) (begun : AreLeaves g leaves) (valid : IsGraph g) where
  abbrev after_graph : Graph
  after_graph = replaced_graph (substitutes_after g leaves) g

  graph-after : IsGraph (replaced_graph (substitutes_after g leaves) g)
  graph-after = IsGraph-replaced g (substitutes_after g leaves) valid (after-within g leaves begun valid)

  low-leaf : (v : ℕ) → v < first_gate g → level after_graph v ≡ 0
  low-leaf v h = level-no_gate after_graph v (gate_at-before after_graph v (omega (arith, replaced-first_gate (substitutes_after g leaves) g)))

  low-constant : level after_graph 0 ≡ 0
  low-constant = low-leaf 0 (omega arith)

  abbrev IsLowAfter : Merging → Type 0
  IsLowAfter m = IsLow (level g) (level after_graph) low-constant m

  low-start : IsLowAfter (merging_from leaves)
  low-start = record {
    each = λ v h.
        let none : level after_graph (variable (get_or leaves v 0)) ≡ 0 = low-leaf (variable (get_or leaves v 0)) (omega (arith, begun.long, begun.below v (omega (arith, begun.long)))) in
        omega (arith, none);
    kept = λ gate w e. absurd (none-some w e);
  }

  level-before : (v : ℕ) (gate : Gate) → GateOf g v gate → level g v ≡ gate_level (level g) gate
  level-before v gate place = level-gate g valid v gate (ap (gate_at g) place.variable_is ∙ gate_at-first_gate g place.place ∙ place.there)

  level-after : (v : ℕ) (gate : Gate) → GateOf g v gate → level after_graph v ≡ gate_level (level after_graph) (replaced_gate (substitutes_after g leaves) gate)
  level-after v gate place =
      let at : v ≡ first_gate after_graph + place.place = omega (arith, place.variable_is, replaced-first_gate (substitutes_after g leaves) g) in
      level-gate after_graph graph-after v (replaced_gate (substitutes_after g leaves) gate)
      (ap (gate_at after_graph) at ∙ gate_at-first_gate after_graph place.place ∙ replaced-gate (substitutes_after g leaves) g place.place gate place.there)

  -- one more gate of the graph, where what stands so far stands in the end
  low-gate : (m : Merging) (gate : Gate) → ((v : ℕ) → v < length m.substitutes → get_or (substitutes_after g leaves) v 0 ≡ get_or m.substitutes v 0)
      → GateOf g (length m.substitutes) gate → IsLowAfter m → IsLowAfter (merge_gate m gate)
  low-gate m gate stays place low =
      let at : IsGateAt (length m.substitutes) gate = place.at in
      let h0 : variable gate.rhs0 < length m.substitutes = omega arith in
      let h1 : variable gate.rhs1 < length m.substitutes = omega arith in
      let same : replaced_gate (substitutes_after g leaves) gate ≡ replaced_gate m.substitutes gate =
      ap₂ (λ (x y : ℕ). gate_of (signed_as gate.rhs0 x) (signed_as gate.rhs1 y)) (stays (variable gate.rhs0) h0) (stays (variable gate.rhs1) h1) in
      low-merge_gate (level g) (level after_graph) low-constant m low gate h0 h1 (level-before (length m.substitutes) gate place)
      (level-after (length m.substitutes) gate place ∙ ap (gate_level (level after_graph)) same)

  -- by all gates that are left
  low-gates : (gates : List Gate) (m : Merging) → ((i : ℕ) (gate : Gate) → slice_get gates i ≡ Some gate → GateOf g (length m.substitutes + i) gate)
      → (merge_gates gates m).substitutes ≡ substitutes_after g leaves → IsLowAfter m → IsLowAfter (merge_gates gates m)
  unfolding merge_gates
  low-gates [] m each end low = low
  low-gates (gate ∷ gates) m each end low =
      let first : length m.substitutes + 0 ≡ length m.substitutes = omega arith in
      let stays : (v : ℕ) → v < length m.substitutes → get_or (substitutes_after g leaves) v 0 ≡ get_or m.substitutes v 0 =
      λ v h. ap (λ (xs : List ℕ). get_or xs v 0) (sym end) ∙ substitutes-stay (gate ∷ gates) m v h in
      low-gates gates (merge_gate m gate)
      (λ i other e.
      let place : length m.substitutes + suc i ≡ length (merge_gate m gate).substitutes + i = omega (arith, length-merge_gate m gate) in
      subst (λ (n : ℕ). GateOf g n other) place (each (suc i) other e))
      end
      (low-gate m gate stays (subst (λ (n : ℕ). GateOf g n gate) first (each 0 gate refl)) low)

  low-after : IsLowAfter (merge_gates g.gates (merging_from leaves))
  unfolding substitutes_after
  low-after = low-gates g.gates (merging_from leaves) (gates-of g leaves begun valid) refl low-start

  -- after all gates a replaced literal has at most the literal's level
  pub after-level : (lit : ℕ) → variable lit < variables_end g
      → level (replaced_graph (substitutes_after g leaves) g) (variable (replaced (substitutes_after g leaves) lit)) ≤ level g (variable lit)
  unfolding substitutes_after
  after-level lit h =
      replaced-low (level g) (level after_graph) low-constant (merge_gates g.gates (merging_from leaves)) low-after lit (omega (arith, length-substitutes_after g leaves begun))
