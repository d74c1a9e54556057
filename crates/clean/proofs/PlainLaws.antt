-- A gate that stands for itself after merging is plain, and has a pair of its own.
use Rattle.std.proofs.Common.{ℕ, ◌+◌, ◌*◌, ◌<◌, ◌≡◌, inl, inr, List, [], ◌∷◌, ◌++◌, length, Option, Some, None, slice_get, get_or, refl, arith, ap, sym, ◌∙◌, subst}
use Rattle.std.specs.Map.{lookup}
use Rattle.std.proofs.lemmas.Bool.{cases_eq, both_ways}
use Rattle.std.proofs.lemmas.Option.{same_Some, slice_get_within}
use Rattle.std.proofs.lemmas.List.{length_push, get_or_append_left, get_or_push}
use Rattle.aig_graph.specs.declared.graph.Gate.{Gate}
use Rattle.aig_graph.specs.Graph.{Graph, IsGraph, IsGateAt, variable, first_gate}
use Rattle.aig_graph.specs.Building.{gate_of}
use Rattle.aig_graph.specs.Value.{signed_as}
use Rattle.aig_graph.proofs.SignLaws.{gate_of-ordered}
use Rattle.cleaned_circuits.specs.Merged.{Merging, same_fan_ins, known_substitute, merge_gate, merge_gates, merging_start, replaced, replaced_gate, substitutes_of, with_substitute}
use Rattle.cleaned_circuits.proofs.SubstituteLaws.{GateIn, IsBelow, below-merge_gate, gate_substitutes, gates-in, length-substitutes_of, merge-all, none-kept, pair-below, start-below, start-length, with_earlier, with_equal, with_false, with_opposite, with_true, same_fan_ins-self}
use Rattle.clean.specs.Normalised.{IsPlain}
use Rattle.clean.proofs.CleanLaws.{lookup-none, plain-none}

-- one more entry changes nothing for what reads the entries before
gate-push : (substitutes : List ℕ) (x : ℕ) (gate : Gate) → variable gate.rhs0 < length substitutes → variable gate.rhs1 < length substitutes → replaced_gate (substitutes ++ x ∷ []) gate ≡ replaced_gate substitutes gate
gate-push substitutes x gate h0 h1 =
    let first : replaced (substitutes ++ x ∷ []) gate.rhs0 ≡ replaced substitutes gate.rhs0 = ap (signed_as gate.rhs0) (get_or_append_left substitutes (x ∷ []) 0 (variable gate.rhs0) h0) in
    let second : replaced (substitutes ++ x ∷ []) gate.rhs1 ≡ replaced substitutes gate.rhs1 = ap (signed_as gate.rhs1) (get_or_append_left substitutes (x ∷ []) 0 (variable gate.rhs1) h1) in
    ap (λ (n : ℕ). gate_of n (replaced (substitutes ++ x ∷ []) gate.rhs1)) first ∙ ap (λ (n : ℕ). gate_of (replaced substitutes gate.rhs0) n) second

module _ (g : Graph) (held : List ℕ) (valid : IsGraph g) where
  -- gate k has an entry, its own literal
  pub record IsOwn (substitutes : List ℕ) (k : ℕ) : Type 0 where
    -- the gate has an entry
    pub within : first_gate g + k < length substitutes
    -- the entry is the gate's own literal
    pub own : get_or substitutes (first_gate g + k) 0 ≡ 2 * (first_gate g + k)

  -- The gates so far that are their own substitutes are plain after replacement. Each has a pair of
  -- its own, and is found among the kept ones.
  record ArePlainWhereOwn (m : Merging) : Type 0 where
    below : IsBelow m
    plain : (k : ℕ) (gate : Gate) → slice_get g.gates k ≡ Some gate → IsOwn m.substitutes k → IsPlain (replaced_gate m.substitutes gate)
    kept : (k : ℕ) (gate : Gate) → slice_get g.gates k ≡ Some gate → IsOwn m.substitutes k → lookup (same_fan_ins (replaced_gate m.substitutes gate)) m.kept ≡ None → ⊥
    pairs : (i k : ℕ) (one other : Gate) → slice_get g.gates i ≡ Some one → slice_get g.gates k ≡ Some other → i < k → IsOwn m.substitutes i → IsOwn m.substitutes k
        → replaced_gate m.substitutes one ≡ replaced_gate m.substitutes other → ⊥

  -- an earlier gate's entry is that of before
  own-before : (substitutes : List ℕ) (x k : ℕ) → IsOwn (substitutes ++ x ∷ []) k → (first_gate g + k ≡ length substitutes → ⊥) → IsOwn substitutes k
  own-before substitutes x k own early =
      let less : first_gate g + k < length substitutes = omega (arith, own.within, length_push substitutes x, early) in
      record { within = less; own = sym (get_or_append_left substitutes (x ∷ []) 0 (first_gate g + k) less) ∙ own.own }

  -- and it reads what it read before
  same-before : (substitutes : List ℕ) (x k : ℕ) (gate : Gate) → slice_get g.gates k ≡ Some gate → first_gate g + k < length substitutes → replaced_gate (substitutes ++ x ∷ []) gate ≡ replaced_gate substitutes gate
  same-before substitutes x k gate e less =
      let at : IsGateAt (first_gate g + k) gate = valid.gates k gate e in
      gate-push substitutes x gate (omega (arith, at.below, less)) (omega (arith, at.below, at.ordered, less))

  step : (m : Merging) (gate : Gate) → ArePlainWhereOwn m → GateIn g held valid (length m.substitutes) gate → ArePlainWhereOwn (merge_gate m gate)
  step m gate so_far place = go (known_substitute m.kept pair) refl
    where
      pair : Gate
      pair = replaced_gate m.substitutes gate

      at : IsGateAt (length m.substitutes) gate
      at = place.at

      first : variable gate.rhs0 < length m.substitutes
      first = omega (arith, at.below)

      second : variable gate.rhs1 < length m.substitutes
      second = omega (arith, at.below, at.ordered)

      under : variable pair.rhs0 < length m.substitutes
      under = pair-below m so_far.below gate first second

      gate_at_place : (k : ℕ) (other : Gate) → slice_get g.gates k ≡ Some other → first_gate g + k ≡ length m.substitutes → gate ≡ other
      gate_at_place k other e last =
          let here : k ≡ place.place = omega (arith, last, place.variable_is) in
          same_Some gate other (sym place.there ∙ ap (slice_get g.gates) (sym here) ∙ e)

      -- the gate that is merged, among those so far
      pair_of : (x k : ℕ) (other : Gate) → slice_get g.gates k ≡ Some other → first_gate g + k ≡ length m.substitutes → replaced_gate (m.substitutes ++ x ∷ []) other ≡ pair
      pair_of x k other e last = ap (replaced_gate (m.substitutes ++ x ∷ [])) (sym (gate_at_place k other e last)) ∙ gate-push m.substitutes x gate first second

      below : (o : Option ℕ) → known_substitute m.kept pair ≡ o → IsBelow (with_substitute m pair o)
      below o e = subst (λ p. IsBelow (with_substitute m pair p)) e (below-merge_gate m so_far.below gate first second)

      -- if a literal stands for it, it doesn't stand for itself
      replaced-last : (substitute k : ℕ) → known_substitute m.kept pair ≡ Some substitute → IsOwn (m.substitutes ++ substitute ∷ []) k → first_gate g + k ≡ length m.substitutes → ⊥
      replaced-last substitute k some own last =
          let here : substitute ≡ 2 * (first_gate g + k) = sym (get_or_push m.substitutes substitute 0 (first_gate g + k) (sym last)) ∙ own.own in
          elim (gate_substitutes m.kept pair) [
            | with_false a e ↦ omega (arith, here, last, first, same_Some substitute 0 (sym some ∙ e))
            | with_true a e ↦ omega (arith, here, last, under, same_Some substitute pair.rhs0 (sym some ∙ e))
            | with_equal a e ↦ omega (arith, here, last, under, same_Some substitute pair.rhs0 (sym some ∙ e))
            | with_opposite a b e ↦ omega (arith, here, last, first, same_Some substitute 0 (sym some ∙ e))
            | with_earlier e ↦ omega (arith, here, last, so_far.below.kept pair substitute (sym e ∙ some))
          ]

      go : (o : Option ℕ) → known_substitute m.kept pair ≡ o → ArePlainWhereOwn (with_substitute m pair o)
      go (Some substitute) some = record {
        below = below (Some substitute) some;
        plain = λ k other e own.
            let before : IsOwn m.substitutes k = own-before m.substitutes substitute k own (replaced-last substitute k some own) in
            subst (λ (x : Gate). IsPlain x) (sym (same-before m.substitutes substitute k other e before.within)) (so_far.plain k other e before);
        kept = λ k other e own missing.
            let before : IsOwn m.substitutes k = own-before m.substitutes substitute k own (replaced-last substitute k some own) in
            so_far.kept k other e before (ap (λ (x : Gate). lookup (same_fan_ins x) m.kept) (sym (same-before m.substitutes substitute k other e before.within)) ∙ missing);
        pairs = λ i k one other e f less own_i own_k same.
            let before_i : IsOwn m.substitutes i = own-before m.substitutes substitute i own_i (replaced-last substitute i some own_i) in
            let before_k : IsOwn m.substitutes k = own-before m.substitutes substitute k own_k (replaced-last substitute k some own_k) in
            so_far.pairs i k one other e f less before_i before_k (sym (same-before m.substitutes substitute i one e before_i.within) ∙ same ∙ same-before m.substitutes substitute k other f before_k.within);
      }
      go None none =
          let x : ℕ = 2 * length m.substitutes in
          record {
            below = below None none;
            plain = λ k other e own. elim (cases_eq (first_gate g + k) (length m.substitutes)) [
              | inl last ↦ subst (λ (p : Gate). IsPlain p) (sym (pair_of x k other e last)) (plain-none m.kept pair (gate_of-ordered (replaced m.substitutes gate.rhs0) (replaced m.substitutes gate.rhs1)) none)
              | inr early ↦ (
                  let before : IsOwn m.substitutes k = own-before m.substitutes x k own early in
                  subst (λ (p : Gate). IsPlain p) (sym (same-before m.substitutes x k other e before.within)) (so_far.plain k other e before))
            ];
            kept = λ k other e own missing.
                let parts = lookup-none (same_fan_ins (replaced_gate (m.substitutes ++ x ∷ []) other)) m.kept pair x missing in
                elim (cases_eq (first_gate g + k) (length m.substitutes)) [
                  | inl last ↦ (
                      let one : replaced_gate (m.substitutes ++ x ∷ []) other ≡ pair = pair_of x k other e last in
                      both_ways (same_fan_ins (replaced_gate (m.substitutes ++ x ∷ []) other) pair) parts.1 (ap (λ (p : Gate). same_fan_ins p pair) one ∙ same_fan_ins-self pair))
                  | inr early ↦ (
                      let before : IsOwn m.substitutes k = own-before m.substitutes x k own early in
                      so_far.kept k other e before (ap (λ (p : Gate). lookup (same_fan_ins p) m.kept) (sym (same-before m.substitutes x k other e before.within)) ∙ parts.0))
                ];
            pairs = λ i k one other e f less own_i own_k same. elim (cases_eq (first_gate g + k) (length m.substitutes)) [
              | inl last ↦ (
                  let before : IsOwn m.substitutes i = own-before m.substitutes x i own_i (λ at_i. omega (arith, at_i, last, less)) in
                  let is : replaced_gate m.substitutes one ≡ pair = sym (same-before m.substitutes x i one e before.within) ∙ same ∙ pair_of x k other f last in
                  so_far.kept i one e before (ap (λ (p : Gate). lookup (same_fan_ins p) m.kept) is ∙ none-kept m.kept pair none))
              | inr early ↦ (
                  let before_k : IsOwn m.substitutes k = own-before m.substitutes x k own_k early in
                  let before_i : IsOwn m.substitutes i = own-before m.substitutes x i own_i (λ at_i. omega (arith, at_i, before_k.within, less)) in
                  so_far.pairs i k one other e f less before_i before_k (sym (same-before m.substitutes x i one e before_i.within) ∙ same ∙ same-before m.substitutes x k other f before_k.within))
            ];
          }

  all : ArePlainWhereOwn (merge_gates g.gates (merging_start g held))
  all = merge-all (λ m. ArePlainWhereOwn m) (λ v gate. GateIn g held valid v gate) step g.gates (merging_start g held) (gates-in g held valid) (record {
    below = start-below g held;
    plain = λ k gate e own. absurd (omega (arith, own.within, start-length g held));
    kept = λ k gate e own missing. omega (arith, own.within, start-length g held);
    pairs = λ i k one other e f less own_i own_k same. omega (arith, own_i.within, start-length g held);
  })

  -- a gate whose entry is its own literal
  is-own : (k : ℕ) (gate : Gate) → slice_get g.gates k ≡ Some gate → get_or (substitutes_of g held) (first_gate g + k) 0 ≡ 2 * (first_gate g + k) → IsOwn (substitutes_of g held) k
  is-own k gate e own = record { within = omega (arith, slice_get_within g.gates k gate e, length-substitutes_of g held); own = own }

  plain-there : (k : ℕ) (gate : Gate) → slice_get g.gates k ≡ Some gate → IsOwn (substitutes_of g held) k → IsPlain (replaced_gate (substitutes_of g held) gate)
  unfolding substitutes_of
  plain-there k gate e own = all.plain k gate e own

  pairs-there : (i k : ℕ) (one other : Gate) → slice_get g.gates i ≡ Some one → slice_get g.gates k ≡ Some other → i < k → IsOwn (substitutes_of g held) i → IsOwn (substitutes_of g held) k
      → replaced_gate (substitutes_of g held) one ≡ replaced_gate (substitutes_of g held) other → ⊥
  unfolding substitutes_of
  pairs-there i k one other e f less own_i own_k same = all.pairs i k one other e f less own_i own_k same

  -- a gate that stands for itself is plain
  pub plain-own : (k : ℕ) (gate : Gate) → slice_get g.gates k ≡ Some gate → get_or (substitutes_of g held) (first_gate g + k) 0 ≡ 2 * (first_gate g + k) → IsPlain (replaced_gate (substitutes_of g held) gate)
  plain-own k gate e own = plain-there k gate e (is-own k gate e own)

  -- no two gates that stand for themselves have one pair
  pub pairs-own : (i k : ℕ) (one other : Gate) → slice_get g.gates i ≡ Some one → slice_get g.gates k ≡ Some other → i < k
      → get_or (substitutes_of g held) (first_gate g + i) 0 ≡ 2 * (first_gate g + i) → get_or (substitutes_of g held) (first_gate g + k) 0 ≡ 2 * (first_gate g + k)
      → replaced_gate (substitutes_of g held) one ≡ replaced_gate (substitutes_of g held) other → ⊥
  pairs-own i k one other e f less own_i own_k = pairs-there i k one other e f less (is-own i one e own_i) (is-own k other f own_k)
