-- Gates of which the first ones read what stands for what they read, in one table.
use Rattle.std.proofs.Common.{ℕ, ◌+◌, ◌<◌, ◌≤◌, ◌≡◌, inl, inr, List, [], ◌∷◌, ◌++◌, nat_lt, length, map, get_or, slice_set, refl, ap, sym, ◌∙◌, arith}
use Rattle.std.proofs.lemmas.Bool.{cases_eq, cond-true, lt-ltb}
use Rattle.std.proofs.lemmas.List.{ext_get_or, get_or_append_left, get_or-map, get_or-set_same, get_or-set_other, length-map, length-set}
use Rattle.aig_graph.specs.declared.graph.Gate.{Gate}
use Rattle.aig_graph.specs.Graph.{variable}
use Rattle.aig_graph.specs.Building.{gate_of}
use Rattle.aig_graph.specs.Value.{signed_as}
use Rattle.cleaned_circuits.specs.Merged.{Merging, merge_gate, merge_gates, replaced, replaced_gate}
use Rattle.cleaned_circuits.proofs.SubstituteLaws.{length-merge_gate}
use Rattle.clean.specs.Kept.{no_gate, put_at}

-- what stands for a variable stays as gates are merged
stays-one : (m : Merging) (gate : Gate) (v : ℕ) → v < length m.substitutes → get_or (merge_gate m gate).substitutes v 0 ≡ get_or m.substitutes v 0
stays-one m gate v less = get_or_append_left m.substitutes _ 0 v less

-- what stands for a variable that is there already stays, whatever gates follow
pub substitutes-stay : (gates : List Gate) (m : Merging) (v : ℕ) → v < length m.substitutes → get_or (merge_gates gates m).substitutes v 0 ≡ get_or m.substitutes v 0
unfolding merge_gates
substitutes-stay [] m v less = refl
substitutes-stay (gate ∷ gates) m v less = substitutes-stay gates (merge_gate m gate) v (omega (arith, length-merge_gate m gate, less)) ∙ stays-one m gate v less

-- what stands for a gate's literals stays
pub pair-stays : (gates : List Gate) (m whole : Merging) (gate : Gate) → merge_gates gates m ≡ whole → variable gate.rhs0 < length m.substitutes → variable gate.rhs1 < length m.substitutes
    → replaced_gate m.substitutes gate ≡ replaced_gate whole.substitutes gate
pair-stays gates m whole gate is first second =
    let at : (lit : ℕ) → variable lit < length m.substitutes → replaced m.substitutes lit ≡ replaced whole.substitutes lit =
    λ lit less. ap (signed_as lit) (sym (ap (λ (n : Merging). get_or n.substitutes (variable lit) 0) (sym is) ∙ substitutes-stay gates m (variable lit) less)) in
    ap (λ (l : ℕ). gate_of l (replaced m.substitutes gate.rhs1)) (at gate.rhs0 first) ∙ ap (gate_of (replaced whole.substitutes gate.rhs0)) (at gate.rhs1 second)

-- of these gates the first n read what stands for what they read
pub record HalfMerged (read now : List Gate) (substitutes : List ℕ) (n : ℕ) : Type 0 where
  -- no gate goes or comes
  pub long : length now ≡ length read
  -- those before n read what stands for what they read
  pub done : (i : ℕ) → i < n → get_or now i no_gate ≡ replaced_gate substitutes (get_or read i no_gate)
  -- those from n on are as they were
  pub left : (i : ℕ) → n ≤ i → get_or now i no_gate ≡ get_or read i no_gate

-- one more gate gives way to its pair
pub one-merged : (read now : List Gate) (substitutes : List ℕ) (n : ℕ) (pair : Gate) → HalfMerged read now substitutes n → n < length read
    → pair ≡ replaced_gate substitutes (get_or read n no_gate) → HalfMerged read (put_at now n pair) substitutes (n + 1)
one-merged read now substitutes n pair half within is =
    let less : n < length now = omega (arith, half.long, within) in
    let put : put_at now n pair ≡ slice_set now n pair = cond-true (nat_lt n (length now)) (slice_set now n pair) (now ++ pair ∷ []) (lt-ltb n (length now) less) in
    let other : (i : ℕ) → (i ≡ n → ⊥) → get_or (put_at now n pair) i no_gate ≡ get_or now i no_gate =
    λ i apart. ap (λ (xs : List Gate). get_or xs i no_gate) put ∙ get_or-set_other now n i pair no_gate apart in
    record {
      long = ap (λ (xs : List Gate). length xs) put ∙ length-set now n pair ∙ half.long;
      done = λ i below. elim (cases_eq i n) [
        | inl at ↦
            ap (λ (j : ℕ). get_or (put_at now n pair) j no_gate) at ∙ ap (λ (xs : List Gate). get_or xs n no_gate) put ∙ get_or-set_same now n pair no_gate less
            ∙ is ∙ ap (λ (j : ℕ). replaced_gate substitutes (get_or read j no_gate)) (sym at)
        | inr apart ↦ other i apart ∙ half.done i (omega (arith, below, apart))
      ];
      left = λ i more. other i (λ same. omega (arith, same, more)) ∙ half.left i (omega (arith, more));
    }

-- with all of them merged, the table is that of the merged circuit
pub all-merged : (read now : List Gate) (substitutes : List ℕ) (n : ℕ) → HalfMerged read now substitutes n → length read ≤ n → now ≡ map (replaced_gate substitutes) read
all-merged read now substitutes n half end =
    ext_get_or no_gate now (map (replaced_gate substitutes) read) (half.long ∙ sym (length-map read (replaced_gate substitutes)))
    (λ i less. half.done i (omega (arith, less, end, half.long)) ∙ sym (get_or-map (replaced_gate substitutes) read i no_gate no_gate (omega (arith, less, half.long))))
