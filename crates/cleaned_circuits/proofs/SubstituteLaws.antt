-- What stands for a variable always has its value, and no later variable stands for it.
use Rattle.std.proofs.Common.{zero-add, ℕ, ◌+◌, ◌*◌, ◌<◌, ◌≤◌, ◌≡◌, ◌⊎◌, inl, inr, suc, List, [], ◌∷◌, ◌++◌, length, Bool, true, false, not, ◌&&◌, cond, nat_eq, Option, Some, None, slice_get, get_or, refl, arith, ap, sym, ◌∙◌, subst}
use Rattle.std.proofs.Math.Bool.{and-false, and-not_self, and-true, and_self, not-and_self}
use Rattle.std.specs.Map.{lookup}
use Rattle.std.proofs.lemmas.Bool.{cases_Bool, cases_lt, cases_eq, eqb-true, eqb-false, and_parts, cond-true, cond-false, and_from, eq-eqb}
use Rattle.std.proofs.lemmas.Option.{none-some, same_Some}
use Rattle.std.proofs.lemmas.List.{length_push, get_or_append_left, get_or_push}
use Rattle.aig_graph.specs.declared.graph.Gate.{Gate}
use Rattle.aig_graph.specs.Graph.{Graph, IsGraph, IsGateAt, variable, first_gate, variables_end}
use Rattle.aig_graph.specs.Value.{Inputs, Choice, value, signed}
use Rattle.aig_graph.specs.Laws.{ValueLaws}
use Rattle.aig_graph.proofs.ValueLaws.{value_laws}
use Rattle.aig_graph.specs.Tables.{table}
use Rattle.aig_graph.proofs.TableLaws.{length-table, table-at}
use Rattle.aig_graph.proofs.SignLaws.{value_signed, value_signed_as, variable-signed_as, value-gate_of, gate_of-below}
use Rattle.cleaned_circuits.specs.Latches.{leaf_substitute}
use Rattle.cleaned_circuits.specs.Merged.{Merging, replaced, replaced_gate, same_fan_ins, known_substitute, with_substitute, merge_gate, merge_gates, merging_from, merging_start, substitutes_after, substitutes_of}
use Rattle.cleaned_circuits.proofs.LatchLaws.{leaf_substitute-value, leaf_substitute-below}

-- an entry after others is found if it passes and none before it does
pub lookup_push : (test : Gate → Bool) (es : List (Gate × ℕ)) (gate : Gate) (v w : ℕ) → lookup test (es ++ (gate, v) ∷ []) ≡ Some w
    → (lookup test es ≡ Some w) ⊎ ((test gate ≡ true) × (v ≡ w))
lookup_push test [] gate v w e = elim (cases_Bool (test gate)) [
  | inl pass ↦ inr (pass, same_Some v w (sym (cond-true (test gate) (Some v) None pass) ∙ e))
  | inr fails ↦ absurd (none-some w (sym (cond-false (test gate) (Some v) None fails) ∙ e))
]
lookup_push test (e0 ∷ es) gate v w e = elim (cases_Bool (test e0.0)) [
  | inl pass ↦ inl (cond-true (test e0.0) (Some e0.1) (lookup test es) pass ∙ (sym (cond-true (test e0.0) (Some e0.1) (lookup test (es ++ (gate, v) ∷ [])) pass) ∙ e))
  | inr fails ↦ elim (lookup_push test es gate v w (sym (cond-false (test e0.0) (Some e0.1) (lookup test (es ++ (gate, v) ∷ [])) fails) ∙ e)) [
    | inl before ↦ inl (cond-false (test e0.0) (Some e0.1) (lookup test es) fails ∙ before)
    | inr here ↦ inr here
  ]
]

-- gates that are equal by the test are equal
pub same_fan_ins-is : (gate other : Gate) → same_fan_ins gate other ≡ true → gate ≡ other
same_fan_ins-is gate other e =
    let parts = and_parts (nat_eq gate.rhs0 other.rhs0) (nat_eq gate.rhs1 other.rhs1) e in
    let one : ℕ → Gate = λ n. record { rhs0 = n; rhs1 = gate.rhs1 } in
    let two : ℕ → Gate = λ n. record { rhs0 = other.rhs0; rhs1 = n } in
    ap one (eqb-true gate.rhs0 other.rhs0 parts.0) ∙ ap two (eqb-true gate.rhs1 other.rhs1 parts.1)

-- a gate has its own literals
pub same_fan_ins-self : (gate : Gate) → same_fan_ins gate gate ≡ true
same_fan_ins-self gate = and_from (nat_eq gate.rhs0 gate.rhs0) (nat_eq gate.rhs1 gate.rhs1) (eq-eqb gate.rhs0 gate.rhs0 refl) (eq-eqb gate.rhs1 gate.rhs1 refl)

-- why a literal stands for a gate
pub data GateSubstitutes (kept : List (Gate × ℕ)) (gate : Gate) (o : Option ℕ) : Type 0 where
  with_false : gate.rhs1 ≡ 0 → o ≡ Some 0 → GateSubstitutes kept gate o
  with_true : gate.rhs1 ≡ 1 → o ≡ Some gate.rhs0 → GateSubstitutes kept gate o
  with_equal : gate.rhs0 ≡ gate.rhs1 → o ≡ Some gate.rhs0 → GateSubstitutes kept gate o
  with_opposite : (gate.rhs0 ≡ gate.rhs1 → ⊥) → variable gate.rhs0 ≡ variable gate.rhs1 → o ≡ Some 0 → GateSubstitutes kept gate o
  with_earlier : o ≡ lookup (same_fan_ins gate) kept → GateSubstitutes kept gate o

-- a gate comes down to 0, to one of its fan-ins, or to what a kept gate of its fan-ins has, if
-- there is one
pub gate_substitutes : (kept : List (Gate × ℕ)) (gate : Gate) → GateSubstitutes kept gate (known_substitute kept gate)
gate_substitutes kept gate =
    let found : Option ℕ = lookup (same_fan_ins gate) kept in
    let d : Option ℕ = cond (nat_eq (variable gate.rhs0) (variable gate.rhs1)) (Some 0) found in
    let c : Option ℕ = cond (nat_eq gate.rhs0 gate.rhs1) (Some gate.rhs0) d in
    let b : Option ℕ = cond (nat_eq gate.rhs1 1) (Some gate.rhs0) c in
    elim (cases_Bool (nat_eq gate.rhs1 0)) [
      | inl zero_in ↦ with_false (eqb-true gate.rhs1 0 zero_in) (cond-true (nat_eq gate.rhs1 0) (Some 0) b zero_in)
      | inr more ↦ (
          let at_b : known_substitute kept gate ≡ b = cond-false (nat_eq gate.rhs1 0) (Some 0) b more in
          elim (cases_Bool (nat_eq gate.rhs1 1)) [
            | inl one_in ↦ with_true (eqb-true gate.rhs1 1 one_in) (at_b ∙ cond-true (nat_eq gate.rhs1 1) (Some gate.rhs0) c one_in)
            | inr great ↦ (
                let at_c : known_substitute kept gate ≡ c = at_b ∙ cond-false (nat_eq gate.rhs1 1) (Some gate.rhs0) c great in
                elim (cases_Bool (nat_eq gate.rhs0 gate.rhs1)) [
                  | inl same ↦ with_equal (eqb-true gate.rhs0 gate.rhs1 same) (at_c ∙ cond-true (nat_eq gate.rhs0 gate.rhs1) (Some gate.rhs0) d same)
                  | inr other ↦ (
                      let at_d : known_substitute kept gate ≡ d = at_c ∙ cond-false (nat_eq gate.rhs0 gate.rhs1) (Some gate.rhs0) d other in
                      elim (cases_Bool (nat_eq (variable gate.rhs0) (variable gate.rhs1))) [
                        | inl opposite ↦ with_opposite (eqb-false gate.rhs0 gate.rhs1 other) (eqb-true (variable gate.rhs0) (variable gate.rhs1) opposite)
                            (at_d ∙ cond-true (nat_eq (variable gate.rhs0) (variable gate.rhs1)) (Some 0) found opposite)
                        | inr two ↦ with_earlier (at_d ∙ cond-false (nat_eq (variable gate.rhs0) (variable gate.rhs1)) (Some 0) found two)
                      ])
                ])
          ])
    ]

-- if nothing stands for a gate, no kept gate has its literals
pub none-kept : (kept : List (Gate × ℕ)) (gate : Gate) → known_substitute kept gate ≡ None → lookup (same_fan_ins gate) kept ≡ None
none-kept kept gate none = elim (gate_substitutes kept gate) [
  | with_false a e ↦ absurd (none-some 0 (sym none ∙ e))
  | with_true a e ↦ absurd (none-some gate.rhs0 (sym none ∙ e))
  | with_equal a e ↦ absurd (none-some gate.rhs0 (sym none ∙ e))
  | with_opposite a b e ↦ absurd (none-some 0 (sym none ∙ e))
  | with_earlier e ↦ sym e ∙ none
]

-- no later variable stands for a variable, and kept gates are among those so far
pub record IsBelow (m : Merging) : Type 0 where
  -- what stands for a variable is of no later one
  pub each : (v : ℕ) → v < length m.substitutes → variable (get_or m.substitutes v 0) ≤ v
  -- the literal of a kept gate is of a variable that has an entry
  pub kept : (gate : Gate) (w : ℕ) → lookup (same_fan_ins gate) m.kept ≡ Some w → variable w < length m.substitutes

-- a replaced literal is of the variable that stands for the literal's
pub replaced-variable : (substitutes : List ℕ) (lit : ℕ) → variable (replaced substitutes lit) ≡ variable (get_or substitutes (variable lit) 0)
replaced-variable substitutes lit = variable-signed_as lit (get_or substitutes (variable lit) 0)

-- a replaced literal is of no later variable
pub replaced-below : (m : Merging) → IsBelow m → (lit : ℕ) → variable lit < length m.substitutes → variable (replaced m.substitutes lit) ≤ variable lit
replaced-below m below lit h = omega (arith, replaced-variable m.substitutes lit, below.each (variable lit) h)

-- the replaced gate reads what stands before it
pub pair-below : (m : Merging) → IsBelow m → (gate : Gate) → variable gate.rhs0 < length m.substitutes → variable gate.rhs1 < length m.substitutes
    → variable (replaced_gate m.substitutes gate).rhs0 < length m.substitutes
pair-below m below gate h0 h1 =
    gate_of-below (length m.substitutes) (replaced m.substitutes gate.rhs0) (replaced m.substitutes gate.rhs1)
    (omega (arith, replaced-below m below gate.rhs0 h0)) (omega (arith, replaced-below m below gate.rhs1 h1))

substitute-below : (kept : List (Gate × ℕ)) (v : ℕ) (gate : Gate) (substitute : ℕ) → variable gate.rhs0 < v → ((w : ℕ) → lookup (same_fan_ins gate) kept ≡ Some w → variable w < v)
    → known_substitute kept gate ≡ Some substitute → variable substitute ≤ v
substitute-below kept v gate substitute h known some = elim (gate_substitutes kept gate) [
  | with_false a e ↦ omega (arith, same_Some substitute 0 (sym some ∙ e))
  | with_true a e ↦ omega (arith, same_Some substitute gate.rhs0 (sym some ∙ e))
  | with_equal a e ↦ omega (arith, same_Some substitute gate.rhs0 (sym some ∙ e))
  | with_opposite a b e ↦ omega (arith, same_Some substitute 0 (sym some ∙ e))
  | with_earlier e ↦ omega (arith, known substitute (sym e ∙ some))
]

at_push : (P : ℕ → ℕ → Type 0) (xs : List ℕ) (y : ℕ) → ((v : ℕ) → v < length xs → P v (get_or xs v 0)) → P (length xs) y → (v : ℕ) → v < length (xs ++ y ∷ []) → P v (get_or (xs ++ y ∷ []) v 0)
at_push P xs y each last v h = elim (cases_eq v (length xs)) [
  | inl same ↦ subst (P v) (sym (get_or_push xs y 0 v (sym same))) (let Q : ℕ → Type 0 = λ n. P n y in subst Q (sym same) last)
  | inr other ↦ (
      let less : v < length xs = omega (arith, length_push xs y) in
      subst (P v) (sym (get_or_append_left xs (y ∷ []) 0 v less)) (each v less))
]

-- merging one more gate, no variable is replaced by a later one
pub below-merge_gate : (m : Merging) → IsBelow m → (gate : Gate) → variable gate.rhs0 < length m.substitutes → variable gate.rhs1 < length m.substitutes → IsBelow (merge_gate m gate)
below-merge_gate m below gate h0 h1 = go (known_substitute m.kept (replaced_gate m.substitutes gate)) refl
  where
    go : (o : Option ℕ) → known_substitute m.kept (replaced_gate m.substitutes gate) ≡ o → IsBelow (with_substitute m (replaced_gate m.substitutes gate) o)
    go (Some substitute) some = record {
      each = at_push (λ v lit. variable lit ≤ v) m.substitutes substitute below.each
          (substitute-below m.kept (length m.substitutes) (replaced_gate m.substitutes gate) substitute (pair-below m below gate h0 h1) (below.kept (replaced_gate m.substitutes gate)) some);
      kept = λ other w e. omega (arith, length_push m.substitutes substitute, below.kept other w e);
    }
    go None none = record {
      each = at_push (λ v lit. variable lit ≤ v) m.substitutes (2 * length m.substitutes) below.each (omega arith);
      kept = λ other w e. elim (lookup_push (same_fan_ins other) m.kept (replaced_gate m.substitutes gate) (2 * length m.substitutes) w e) [
        | inl before ↦ omega (arith, length_push m.substitutes (2 * length m.substitutes), below.kept other w before)
        | inr last ↦ omega (arith, length_push m.substitutes (2 * length m.substitutes), last.1)
      ];
    }

-- with what stands for one more variable there is an entry more
pub length-with_substitute : (m : Merging) (pair : Gate) (o : Option ℕ) → length (with_substitute m pair o).substitutes ≡ length m.substitutes + 1
length-with_substitute m pair (Some substitute) = length_push m.substitutes substitute
length-with_substitute m pair None = length_push m.substitutes (2 * length m.substitutes)

-- merging one more gate adds one entry
pub length-merge_gate : (m : Merging) (gate : Gate) → length (merge_gate m gate).substitutes ≡ length m.substitutes + 1
length-merge_gate m gate = length-with_substitute m (replaced_gate m.substitutes gate) (known_substitute m.kept (replaced_gate m.substitutes gate))

module _ (vals : ℕ → Bool) (negated : (v : ℕ) → vals (2 * v + 1) ≡ not (vals (2 * v))) (constant : vals 0 ≡ false) where
  -- what stands has the value of what it stands for, and a kept gate that of its literals
  pub record IsRight (m : Merging) : Type 0 where
    -- what stands for a variable has its value
    pub each : (v : ℕ) → v < length m.substitutes → vals (get_or m.substitutes v 0) ≡ vals (2 * v)
    -- the literal of a kept gate has the AND of its fan-ins' values
    pub kept : (gate : Gate) (w : ℕ) → lookup (same_fan_ins gate) m.kept ≡ Some w → vals w ≡ (vals gate.rhs0 && vals gate.rhs1)

  -- if what stands for a literal's variable has its value, the replaced literal has the literal's
  pub replaced-value : (substitutes : List ℕ) (lit : ℕ) → vals (get_or substitutes (variable lit) 0) ≡ vals (2 * variable lit) → vals (replaced substitutes lit) ≡ vals lit
  replaced-value substitutes lit same =
      value_signed_as vals negated lit (get_or substitutes (variable lit) 0) ∙ ap (signed lit) same ∙ sym (value_signed vals negated lit)

  -- if both replaced fan-ins have their values, the replaced gate has the gate's
  pub pair-value : (substitutes : List ℕ) (gate : Gate) → vals (replaced substitutes gate.rhs0) ≡ vals gate.rhs0 → vals (replaced substitutes gate.rhs1) ≡ vals gate.rhs1
      → (vals (replaced_gate substitutes gate).rhs0 && vals (replaced_gate substitutes gate).rhs1) ≡ (vals gate.rhs0 && vals gate.rhs1)
  pair-value substitutes gate first second =
      value-gate_of vals (replaced substitutes gate.rhs0) (replaced substitutes gate.rhs1)
      ∙ ap (λ (b : Bool). b && vals (replaced substitutes gate.rhs1)) first ∙ ap (λ (b : Bool). vals gate.rhs0 && b) second

  opposite : (a b : ℕ) → (a ≡ b → ⊥) → variable a ≡ variable b → (vals a && vals b) ≡ false
  opposite a b other same = elim (cases_lt a b) [
    | inl less ↦ (
        let first : a ≡ 2 * variable a = omega arith in
        let second : b ≡ 2 * variable a + 1 = omega arith in
        let va : vals a ≡ vals (2 * variable a) = ap vals first in
        let vb : vals b ≡ not (vals (2 * variable a)) = ap vals second ∙ negated (variable a) in
        ap (λ (p : Bool). p && vals b) va ∙ ap (λ (p : Bool). vals (2 * variable a) && p) vb ∙ and-not_self (vals (2 * variable a)))
    | inr more ↦ (
        let first : a ≡ 2 * variable b + 1 = omega arith in
        let second : b ≡ 2 * variable b = omega arith in
        let va : vals a ≡ not (vals (2 * variable b)) = ap vals first ∙ negated (variable b) in
        let vb : vals b ≡ vals (2 * variable b) = ap vals second in
        ap (λ (p : Bool). p && vals b) va ∙ ap (λ (p : Bool). not (vals (2 * variable b)) && p) vb ∙ not-and_self (vals (2 * variable b)))
  ]

  substitute-value : (kept : List (Gate × ℕ)) (gate : Gate) (substitute : ℕ) → ((w : ℕ) → lookup (same_fan_ins gate) kept ≡ Some w → vals w ≡ (vals gate.rhs0 && vals gate.rhs1))
      → known_substitute kept gate ≡ Some substitute → vals substitute ≡ (vals gate.rhs0 && vals gate.rhs1)
  substitute-value kept gate substitute known some = elim (gate_substitutes kept gate) [
    | with_false a e ↦ ap vals (same_Some substitute 0 (sym some ∙ e)) ∙ constant ∙ sym (ap (λ (n : ℕ). vals gate.rhs0 && vals n) a ∙ ap (λ (b : Bool). vals gate.rhs0 && b) constant ∙ and-false (vals gate.rhs0))
    | with_true a e ↦ (
        let one : vals 1 ≡ true = negated 0 ∙ ap not constant in
        ap vals (same_Some substitute gate.rhs0 (sym some ∙ e)) ∙ sym (ap (λ (n : ℕ). vals gate.rhs0 && vals n) a ∙ ap (λ (b : Bool). vals gate.rhs0 && b) one ∙ and-true (vals gate.rhs0)))
    | with_equal a e ↦ ap vals (same_Some substitute gate.rhs0 (sym some ∙ e)) ∙ sym (ap (λ (n : ℕ). vals gate.rhs0 && vals n) (sym a) ∙ and_self (vals gate.rhs0))
    | with_opposite a b e ↦ ap vals (same_Some substitute 0 (sym some ∙ e)) ∙ constant ∙ sym (opposite gate.rhs0 gate.rhs1 a b)
    | with_earlier e ↦ known substitute (sym e ∙ some)
  ]

  -- merging one more gate, what stands has the value of what it stands for
  pub right-merge_gate : (m : Merging) → IsRight m → (gate : Gate) → variable gate.rhs0 < length m.substitutes → variable gate.rhs1 < length m.substitutes
      → vals (2 * length m.substitutes) ≡ (vals gate.rhs0 && vals gate.rhs1) → IsRight (merge_gate m gate)
  right-merge_gate m right gate h0 h1 own = go (known_substitute m.kept (replaced_gate m.substitutes gate)) refl
    where
      same : (vals (replaced_gate m.substitutes gate).rhs0 && vals (replaced_gate m.substitutes gate).rhs1) ≡ (vals gate.rhs0 && vals gate.rhs1)
      same = pair-value m.substitutes gate (replaced-value m.substitutes gate.rhs0 (right.each (variable gate.rhs0) h0)) (replaced-value m.substitutes gate.rhs1 (right.each (variable gate.rhs1) h1))

      go : (o : Option ℕ) → known_substitute m.kept (replaced_gate m.substitutes gate) ≡ o → IsRight (with_substitute m (replaced_gate m.substitutes gate) o)
      go (Some substitute) some = record {
        each = at_push (λ v lit. vals lit ≡ vals (2 * v)) m.substitutes substitute right.each
            (substitute-value m.kept (replaced_gate m.substitutes gate) substitute (right.kept (replaced_gate m.substitutes gate)) some ∙ same ∙ sym own);
        kept = right.kept;
      }
      go None none = record {
        each = at_push (λ v lit. vals lit ≡ vals (2 * v)) m.substitutes (2 * length m.substitutes) right.each refl;
        kept = λ other w e. elim (lookup_push (same_fan_ins other) m.kept (replaced_gate m.substitutes gate) (2 * length m.substitutes) w e) [
          | inl before ↦ right.kept other w before
          | inr last ↦ ap vals (sym last.1) ∙ own ∙ sym same ∙ ap (λ (p : Gate). vals p.rhs0 && vals p.rhs1) (sym (same_fan_ins-is other (replaced_gate m.substitutes gate) last.0))
        ];
      }

-- what holds after all gates, if each step keeps it
pub merge-all : (P : Merging → Type 0) (Q : ℕ → Gate → Type 0) → ((m : Merging) (gate : Gate) → P m → Q (length m.substitutes) gate → P (merge_gate m gate))
    → (gates : List Gate) (m : Merging) → ((i : ℕ) (gate : Gate) → slice_get gates i ≡ Some gate → Q (length m.substitutes + i) gate) → P m → P (merge_gates gates m)
unfolding merge_gates
merge-all P Q step [] m each holds = holds
merge-all P Q step (gate ∷ gates) m each holds =
    let first : length m.substitutes + 0 ≡ length m.substitutes = omega arith in
    merge-all P Q step gates (merge_gate m gate)
    (λ i other e.
    let place : length m.substitutes + suc i ≡ length (merge_gate m gate).substitutes + i = omega (arith, length-merge_gate m gate) in
    subst (λ (n : ℕ). Q n other) place (each (suc i) other e))
    (step m gate holds (subst (λ (n : ℕ). Q n gate) first (each 0 gate refl)))

-- merging gates adds as many entries as there are gates
pub length-merge_gates : (gates : List Gate) (m : Merging) → length (merge_gates gates m).substitutes ≡ length m.substitutes + length gates
unfolding merge_gates
length-merge_gates [] m = omega arith
length-merge_gates (gate ∷ gates) m = omega (arith, length-merge_gates gates (merge_gate m gate), length-merge_gate m gate)

-- a gate of the graph, at its variable
pub record GateOf (g : Graph) (v : ℕ) (gate : Gate) : Type 0 where
  -- it is a gate at this variable
  pub at : IsGateAt v gate
  -- its place among the gates
  pub place : ℕ
  -- the variable is the gate's
  pub variable_is : v ≡ first_gate g + place
  -- it stands at this place
  pub there : slice_get g.gates place ≡ Some gate

-- literals for the variables before the gates, none of a later variable
pub record AreLeaves (g : Graph) (leaves : List ℕ) : Type 0 where
  -- there is a literal for each variable before the gates
  pub long : length leaves ≡ first_gate g
  -- none of them is of a later variable
  pub below : (v : ℕ) → v < first_gate g → variable (get_or leaves v 0) ≤ v

-- whatever stands for the variables before the gates
module _ (g : Graph) (leaves : List ℕ) (begun : AreLeaves g leaves) where
  -- after all gates each variable of the graph has an entry
  pub length-substitutes_after : length (substitutes_after g leaves) ≡ variables_end g
  unfolding substitutes_after
  length-substitutes_after = omega (arith, length-merge_gates g.gates (merging_from leaves), begun.long)

  -- before any gate no variable is replaced by a later one
  pub leaves-below : IsBelow (merging_from leaves)
  leaves-below = record {
    each = λ v h. begun.below v (omega (arith, begun.long));
    kept = λ gate w e. absurd (none-some w e);
  }

  module _ (valid : IsGraph g) where
    -- each gate of the graph stands where its entry comes next
    pub gates-of : (i : ℕ) (gate : Gate) → slice_get g.gates i ≡ Some gate → GateOf g (length leaves + i) gate
    gates-of i gate e =
        let place : first_gate g + i ≡ length leaves + i = omega (arith, begun.long) in
        record { at = let P : ℕ → Type 0 = λ n. IsGateAt n gate in subst P place (valid.gates i gate e); place = i; variable_is = sym place; there = e }

    below-after : IsBelow (merge_gates g.gates (merging_from leaves))
    below-after = merge-all (λ m. IsBelow m) (λ v gate. GateOf g v gate) step g.gates (merging_from leaves) gates-of leaves-below
      where
        step : (m : Merging) (gate : Gate) → IsBelow m → GateOf g (length m.substitutes) gate → IsBelow (merge_gate m gate)
        step m gate below place =
            let at : IsGateAt (length m.substitutes) gate = place.at in
            below-merge_gate m below gate (omega arith) (omega arith)

    -- no later variable stands for a variable
    pub after-below : (v : ℕ) → v < variables_end g → variable (get_or (substitutes_after g leaves) v 0) ≤ v
    unfolding substitutes_after
    after-below v h = below-after.each v (omega (arith, length-substitutes_after))

    -- after all gates a replaced literal is of no later variable
    pub after-within : (lit : ℕ) → variable lit < variables_end g → variable (replaced (substitutes_after g leaves) lit) ≤ variable lit
    after-within lit h = omega (arith, replaced-variable (substitutes_after g leaves) lit, after-below (variable lit) h)

    -- if what stands for each variable before the gates has its value in a step, what stands for
    -- any has
    module _ (x : Inputs) (f : Choice) (t : ℕ) (right : (v : ℕ) → v < first_gate g → value g x f t (get_or leaves v 0) ≡ value g x f t (2 * v)) where
      laws : ValueLaws g x f
      laws = value_laws g valid x f

      right-after : IsRight (value g x f t) (λ v. laws.negation t v) (laws.constant t) (merge_gates g.gates (merging_from leaves))
      right-after = merge-all (λ m. IsRight (value g x f t) (λ v. laws.negation t v) (laws.constant t) m) (λ v gate. GateOf g v gate) step g.gates (merging_from leaves) gates-of (record {
        each = λ v h. right v (omega (arith, begun.long));
        kept = λ gate w e. absurd (none-some w e);
      })
        where
          step : (m : Merging) (gate : Gate) → IsRight (value g x f t) (λ v. laws.negation t v) (laws.constant t) m → GateOf g (length m.substitutes) gate
              → IsRight (value g x f t) (λ v. laws.negation t v) (laws.constant t) (merge_gate m gate)
          step m gate so_far place =
              let at : IsGateAt (length m.substitutes) gate = place.at in
              let here : value g x f t (2 * length m.substitutes) ≡ (value g x f t gate.rhs0 && value g x f t gate.rhs1) =
              ap (λ (n : ℕ). value g x f t (2 * n)) place.variable_is ∙ laws.gate t place.place gate place.there in
              right-merge_gate (value g x f t) (λ v. laws.negation t v) (laws.constant t) m so_far gate (omega arith) (omega arith) here

      -- after all gates what stands for a variable has its value
      pub after-value : (v : ℕ) → v < variables_end g → value g x f t (get_or (substitutes_after g leaves) v 0) ≡ value g x f t (2 * v)
      unfolding substitutes_after
      after-value v h = right-after.each v (omega (arith, length-substitutes_after))

      -- after all gates a replaced literal has the literal's value
      pub replaced_after-value : (lit : ℕ) → variable lit < variables_end g → value g x f t (replaced (substitutes_after g leaves) lit) ≡ value g x f t lit
      replaced_after-value lit h =
          replaced-value (value g x f t) (λ v. laws.negation t v) (laws.constant t) (substitutes_after g leaves) lit (after-value (variable lit) h)

-- in a pass of cleaning
module _ (g : Graph) (held : List ℕ) where
  abbrev cleaned_leaves : List ℕ
  cleaned_leaves = table 0 (first_gate g) (leaf_substitute g held)

  -- a pass of cleaning begins with an entry for each variable before the gates
  pub start-length : length (merging_start g held).substitutes ≡ first_gate g
  start-length = length-table 0 (first_gate g) (leaf_substitute g held)

  -- the entry of a variable at its beginning is what stands for it before the gates
  pub start-entry : (v : ℕ) → v < length (merging_start g held).substitutes → get_or (merging_start g held).substitutes v 0 ≡ leaf_substitute g held v
  start-entry v h = table-at 0 (first_gate g) (leaf_substitute g held) v 0 (omega (arith, start-length)) ∙ ap (leaf_substitute g held) (zero-add v)

  are-leaves : AreLeaves g cleaned_leaves
  are-leaves = record {
    long = start-length;
    below = λ v h. omega (arith, start-entry v (omega (arith, start-length)), leaf_substitute-below g held v h);
  }

  -- at its beginning no variable is replaced by a later one
  pub start-below : IsBelow (merging_start g held)
  start-below = leaves-below g cleaned_leaves are-leaves

  -- a pass is a run that begins with what stands for latches in it
  pub substitutes-after : substitutes_of g held ≡ substitutes_after g cleaned_leaves
  unfolding substitutes_of substitutes_after
  substitutes-after = refl

  -- a pass of cleaning has in the end an entry for each variable of the graph
  pub length-substitutes_of : length (substitutes_of g held) ≡ variables_end g
  length-substitutes_of = ap (λ (xs : List ℕ). length xs) substitutes-after ∙ length-substitutes_after g cleaned_leaves are-leaves

  module _ (valid : IsGraph g) where
    abbrev pub GateIn : ℕ → Gate → Type 0
    GateIn v gate = GateOf g v gate

    -- in a pass of cleaning each gate stands where its entry comes next
    pub gates-in : (i : ℕ) (gate : Gate) → slice_get g.gates i ≡ Some gate → GateIn (length (merging_start g held).substitutes + i) gate
    gates-in i gate e = gates-of g cleaned_leaves are-leaves valid i gate e

    -- no later variable stands for a variable
    pub replaced-within : (lit : ℕ) → variable lit < variables_end g → variable (replaced (substitutes_of g held) lit) ≤ variable lit
    replaced-within lit h = omega (arith, ap (λ (xs : List ℕ). variable (replaced xs lit)) substitutes-after, after-within g cleaned_leaves are-leaves valid lit h)

    -- what stands for a literal has its value
    pub replaced_literal-value : (x : Inputs) (f : Choice) (t lit : ℕ) → variable lit < variables_end g → value g x f t (replaced (substitutes_of g held) lit) ≡ value g x f t lit
    replaced_literal-value x f t lit h =
        ap (λ (xs : List ℕ). value g x f t (replaced xs lit)) substitutes-after
        ∙ replaced_after-value g cleaned_leaves are-leaves valid x f t
        (λ v low. ap (value g x f t) (start-entry v (omega (arith, start-length))) ∙ leaf_substitute-value g valid held x f t v low) lit h
