-- What stands for a variable stands for itself.
use Rattle.std.proofs.Common.{ℕ, ◌+◌, ◌-◌, ◌*◌, ◌<◌, ◌≤◌, ◌≡◌, inl, inr, List, [], ◌∷◌, ◌++◌, length, Bool, true, false, not, ◌&&◌, ◌||◌, nat_eq, nat_lt, Option, Some, None, slice_get, get_or, refl, arith, ap, sym, ◌∙◌, subst}
use Rattle.std.specs.Map.{lookup}
use Rattle.std.proofs.lemmas.Bool.{cases_lt, cases_eq, cond-true, cond-false, lt-ltb, le-ltb, and_left, and_right}
use Rattle.std.proofs.lemmas.Option.{none-some, same_Some}
use Rattle.std.proofs.lemmas.List.{length_push, get_or_append_left, get_or_push}
use Rattle.aig_graph.specs.declared.graph.Gate.{Gate}
use Rattle.aig_graph.specs.declared.graph.Latch.{Latch}
use Rattle.aig_graph.specs.declared.graph.Reset.{Reset}
use Rattle.aig_graph.specs.Graph.{Graph, IsGraph, IsGateAt, variable, first_latch, first_gate, variables_end, is_free}
use Rattle.aig_graph.specs.Marking.{has}
use Rattle.aig_graph.specs.Building.{gate_of}
use Rattle.aig_graph.proofs.KindLaws.{element}
use Rattle.cleaned_circuits.specs.Latches.{constant_of, is_constant_latch, is_duplicate, first_duplicate, latch_substitute, leaf_substitute}
use Rattle.cleaned_circuits.specs.Merged.{Merging, replaced, replaced_gate, same_fan_ins, known_substitute, with_substitute, merge_gate, merge_gates, merging_start, substitutes_of}
use Rattle.cleaned_circuits.proofs.LatchLaws.{first_where-cases, first_where-least, Duplicate, stands_for, by_constant, by_itself, by_earlier, constant-even, leaf_substitute-below}
use Rattle.cleaned_circuits.proofs.SubstituteLaws.{lookup_push, gate_substitutes, with_false, with_true, with_equal, with_opposite, with_earlier, IsBelow, merge-all, below-merge_gate, pair-below, replaced-variable, GateIn, gates-in, start-below, start-length, start-entry, length-substitutes_of}

module _ (g : Graph) (held : List ℕ) where
  -- the constant and each input stand for themselves
  pub leaf-low : (v : ℕ) → v < first_latch g → leaf_substitute g held v ≡ 2 * v
  unfolding leaf_substitute
  leaf-low v h = cond-true (nat_lt v (first_latch g)) (2 * v) (latch_substitute g held (v - first_latch g) (slice_get g.latches (v - first_latch g))) (lt-ltb v (first_latch g) h)

  -- what stands for a latch's variable is what stands for the latch
  pub leaf-latch : (j : ℕ) (latch : Latch) → slice_get g.latches j ≡ Some latch → leaf_substitute g held (first_latch g + j) ≡ latch_substitute g held j (Some latch)
  unfolding leaf_substitute
  leaf-latch j latch there =
      let v : ℕ = first_latch g + j in
      let place : first_latch g + j - first_latch g ≡ j = omega arith in
      cond-false (nat_lt v (first_latch g)) (2 * v) (latch_substitute g held (v - first_latch g) (slice_get g.latches (v - first_latch g))) (le-ltb v (first_latch g) (omega arith))
      ∙ ap (λ (i : ℕ). latch_substitute g held i (slice_get g.latches i)) place ∙ ap (latch_substitute g held j) there

  duplicate-same : (a b : Latch) → a.next ≡ b.next → a.reset ≡ b.reset → (i : ℕ) (o : Option Latch) → is_duplicate g held a i o ≡ is_duplicate g held b i o
  duplicate-same a b next reset i o =
      let one : ℕ → Latch = λ n. record { next = n; reset = a.reset } in
      let two : Reset → Latch = λ r. record { next = b.next; reset = r } in
      ap (λ (l : Latch). is_duplicate g held l i o) (ap one next ∙ ap two reset)

  -- the latch that stands for others stands for itself
  earlier-own : (j i : ℕ) (latch : Latch) → i ≡ first_duplicate g held j latch → (duplicate : Duplicate g held latch i) → latch_substitute g held i (Some duplicate.other) ≡ 2 * (first_latch g + i)
  earlier-own j i latch first duplicate =
      let other : Latch = duplicate.other in
      elim (stands_for g held i other) [
        | by_constant constant_latch e ↦ (let clash : false ≡ true = sym duplicate.free_to_stand ∙ constant_latch in absurd (cc))
        | by_itself moving e ↦ e
        | by_earlier h less least before known apart e ↦ (
            let found : is_duplicate g held other h (slice_get g.latches h) ≡ true = found_duplicate h other least less in
            let same : is_duplicate g held latch h (slice_get g.latches h) ≡ true = sym (duplicate-same other latch duplicate.next duplicate.reset h (slice_get g.latches h)) ∙ found in
            let none : is_duplicate g held latch h (slice_get g.latches h) ≡ false = first_where-least (λ k. is_duplicate g held latch k (slice_get g.latches k)) j h (omega (arith, first)) in
            let clash : false ≡ true = sym none ∙ same in
            absurd (cc))
      ]
    where
      found_duplicate : (h : ℕ) (other : Latch) → h ≡ first_duplicate g held i other → h < i → is_duplicate g held other h (slice_get g.latches h) ≡ true
      found_duplicate h other least less = elim (first_where-cases (λ k. is_duplicate g held other k (slice_get g.latches k)) i) [
        | inl last ↦ absurd (omega (arith, least, last))
        | inr there ↦ ap (λ (k : ℕ). is_duplicate g held other k (slice_get g.latches k)) least ∙ there.1
      ]

  -- a literal whose variable stands for itself, before the gates
  abbrev LeafOwn : ℕ → Type 0
  LeafOwn lit = leaf_substitute g held (variable lit) ≡ 2 * variable lit

  latch-own : (j : ℕ) (latch : Latch) → slice_get g.latches j ≡ Some latch → LeafOwn (latch_substitute g held j (Some latch))
  latch-own j latch there = elim (stands_for g held j latch) [
    | by_constant constant_latch e ↦ leaf-low (variable (latch_substitute g held j (Some latch))) (omega (arith, e, constant-even latch.reset))
    | by_itself moving e ↦ (
        let place : variable (latch_substitute g held j (Some latch)) ≡ first_latch g + j = omega (arith, e) in
        ap (leaf_substitute g held) place ∙ leaf-latch j latch there ∙ e ∙ ap (λ (v : ℕ). 2 * v) (sym place))
    | by_earlier i less first duplicate known apart e ↦ (
        let place : variable (latch_substitute g held j (Some latch)) ≡ first_latch g + i = omega (arith, e) in
        ap (leaf_substitute g held) place ∙ leaf-latch i duplicate.other duplicate.there ∙ earlier-own j i latch first duplicate ∙ ap (λ (v : ℕ). 2 * v) (sym place))
  ]

  leaf-own : (v : ℕ) → v < first_gate g → LeafOwn (leaf_substitute g held v)
  leaf-own v h = elim (cases_lt v (first_latch g)) [
    | inl low ↦ (let place : variable (leaf_substitute g held v) ≡ v = omega (arith, leaf-low v low) in ap (leaf_substitute g held) place ∙ leaf-low v low ∙ ap (λ (w : ℕ). 2 * w) (sym place))
    | inr past ↦ (
        let there = element g.latches (v - first_latch g) (omega arith) in
        let place : first_latch g + (v - first_latch g) ≡ v = omega arith in
        let here : leaf_substitute g held v ≡ latch_substitute g held (v - first_latch g) (Some there.0) = ap (leaf_substitute g held) (sym place) ∙ leaf-latch (v - first_latch g) there.0 there.1 in
        subst LeafOwn (sym here) (latch-own (v - first_latch g) there.0 there.1))
  ]

  -- a held latch stands for itself
  pub held-own : (j : ℕ) (latch : Latch) → slice_get g.latches j ≡ Some latch → has held j ≡ true → leaf_substitute g held (first_latch g + j) ≡ 2 * (first_latch g + j)
  held-own j latch there holds = leaf-latch j latch there ∙ elim (stands_for g held j latch) [
    | by_constant constant_latch e ↦ (let clash : false ≡ true = sym (held-moving j latch holds) ∙ constant_latch in absurd (cc))
    | by_itself moving e ↦ e
    | by_earlier i less first duplicate known apart e ↦ (let clash : false ≡ true = sym apart ∙ holds in absurd (cc))
  ]
    where
      held-moving : (j : ℕ) (latch : Latch) → has held j ≡ true → is_constant_latch g held j latch ≡ false
      held-moving j latch holds =
          let own : Bool = nat_eq latch.next (2 * (first_latch g + j)) || nat_eq latch.next (constant_of latch.reset) in
          and_left (not (is_free latch) && not (has held j)) own (and_right (not (is_free latch)) (not (has held j)) (ap not holds))

-- what stands, and the literals of kept gates, stand for themselves
pub record AreOwn (m : Merging) : Type 0 where
  -- there is an entry
  pub some : 0 < length m.substitutes
  -- the constant stands for itself
  pub constant : get_or m.substitutes 0 0 ≡ 0
  -- the variable that stands for another stands for itself
  pub each : (v : ℕ) → v < length m.substitutes → get_or m.substitutes (variable (get_or m.substitutes v 0)) 0 ≡ 2 * variable (get_or m.substitutes v 0)
  -- a kept gate's variable stands for itself
  pub kept : (gate : Gate) (w : ℕ) → lookup (same_fan_ins gate) m.kept ≡ Some w → get_or m.substitutes (variable w) 0 ≡ 2 * variable w

own-replaced : (m : Merging) → AreOwn m → (lit : ℕ) → variable lit < length m.substitutes → get_or m.substitutes (variable (replaced m.substitutes lit)) 0 ≡ 2 * variable (replaced m.substitutes lit)
own-replaced m own lit h =
    let same : variable (replaced m.substitutes lit) ≡ variable (get_or m.substitutes (variable lit) 0) = replaced-variable m.substitutes lit in
    ap (λ (v : ℕ). get_or m.substitutes v 0) same ∙ own.each (variable lit) h ∙ ap (λ (v : ℕ). 2 * v) (sym same)

own-pair : (m : Merging) → AreOwn m → (gate : Gate) → variable gate.rhs0 < length m.substitutes → variable gate.rhs1 < length m.substitutes
    → get_or m.substitutes (variable (replaced_gate m.substitutes gate).rhs0) 0 ≡ 2 * variable (replaced_gate m.substitutes gate).rhs0
own-pair m own gate h0 h1 =
    let a : ℕ = replaced m.substitutes gate.rhs0 in
    let b : ℕ = replaced m.substitutes gate.rhs1 in
    let P : ℕ → Type 0 = λ lit. get_or m.substitutes (variable lit) 0 ≡ 2 * variable lit in
    elim (cases_lt a b) [
      | inl less ↦ (let larger : b ≡ (gate_of a b).rhs0 = omega arith in subst P larger (own-replaced m own gate.rhs1 h1))
      | inr more ↦ (let larger : a ≡ (gate_of a b).rhs0 = omega arith in subst P larger (own-replaced m own gate.rhs0 h0))
    ]

own-substitute : (m : Merging) → AreOwn m → (gate : Gate) (substitute : ℕ) → get_or m.substitutes (variable gate.rhs0) 0 ≡ 2 * variable gate.rhs0 → known_substitute m.kept gate ≡ Some substitute
    → get_or m.substitutes (variable substitute) 0 ≡ 2 * variable substitute
own-substitute m own gate substitute first known =
    let P : ℕ → Type 0 = λ lit. get_or m.substitutes (variable lit) 0 ≡ 2 * variable lit in
    elim (gate_substitutes m.kept gate) [
      | with_false a e ↦ subst P (sym (same_Some substitute 0 (sym known ∙ e))) own.constant
      | with_true a e ↦ subst P (sym (same_Some substitute gate.rhs0 (sym known ∙ e))) first
      | with_equal a e ↦ subst P (sym (same_Some substitute gate.rhs0 (sym known ∙ e))) first
      | with_opposite a b e ↦ subst P (sym (same_Some substitute 0 (sym known ∙ e))) own.constant
      | with_earlier e ↦ own.kept gate substitute (sym e ∙ known)
    ]

own-merge_gate : (m : Merging) → AreOwn m → IsBelow m → (gate : Gate) → variable gate.rhs0 < length m.substitutes → variable gate.rhs1 < length m.substitutes → AreOwn (merge_gate m gate)
own-merge_gate m own below gate h0 h1 = go (known_substitute m.kept (replaced_gate m.substitutes gate)) refl
  where
    still : (y w : ℕ) → w < length m.substitutes → get_or m.substitutes w 0 ≡ 2 * w → get_or (m.substitutes ++ y ∷ []) w 0 ≡ 2 * w
    still y w h e = get_or_append_left m.substitutes (y ∷ []) 0 w h ∙ e

    each-of : (y : ℕ) → get_or (m.substitutes ++ y ∷ []) (variable y) 0 ≡ 2 * variable y → (v : ℕ) → v < length (m.substitutes ++ y ∷ [])
        → get_or (m.substitutes ++ y ∷ []) (variable (get_or (m.substitutes ++ y ∷ []) v 0)) 0 ≡ 2 * variable (get_or (m.substitutes ++ y ∷ []) v 0)
    each-of y last v h =
        let P : ℕ → Type 0 = λ lit. get_or (m.substitutes ++ y ∷ []) (variable lit) 0 ≡ 2 * variable lit in
        elim (cases_eq v (length m.substitutes)) [
          | inl same ↦ subst P (sym (get_or_push m.substitutes y 0 v (sym same))) last
          | inr other ↦ (
              let less : v < length m.substitutes = omega (arith, length_push m.substitutes y) in
              subst P (sym (get_or_append_left m.substitutes (y ∷ []) 0 v less)) (still y (variable (get_or m.substitutes v 0)) (omega (arith, below.each v less)) (own.each v less)))
        ]

    go : (o : Option ℕ) → known_substitute m.kept (replaced_gate m.substitutes gate) ≡ o → AreOwn (with_substitute m (replaced_gate m.substitutes gate) o)
    go (Some substitute) known =
        let first = own-pair m own gate h0 h1 in
        let here = own-substitute m own (replaced_gate m.substitutes gate) substitute first known in
        let at : variable substitute < length m.substitutes = substitute_within substitute known in
        record {
          some = omega (arith, length_push m.substitutes substitute);
          constant = get_or_append_left m.substitutes (substitute ∷ []) 0 0 own.some ∙ own.constant;
          each = each-of substitute (still substitute (variable substitute) at here);
          kept = λ other w e. still substitute (variable w) (below.kept other w e) (own.kept other w e);
        }
      where
        substitute_within : (substitute : ℕ) → known_substitute m.kept (replaced_gate m.substitutes gate) ≡ Some substitute → variable substitute < length m.substitutes
        substitute_within substitute known =
            let pair : Gate = replaced_gate m.substitutes gate in
            let high : variable pair.rhs0 < length m.substitutes = pair-below m below gate h0 h1 in
            elim (gate_substitutes m.kept pair) [
              | with_false a e ↦ omega (arith, same_Some substitute 0 (sym known ∙ e), own.some)
              | with_true a e ↦ omega (arith, same_Some substitute pair.rhs0 (sym known ∙ e))
              | with_equal a e ↦ omega (arith, same_Some substitute pair.rhs0 (sym known ∙ e))
              | with_opposite a b e ↦ omega (arith, same_Some substitute 0 (sym known ∙ e), own.some)
              | with_earlier e ↦ below.kept pair substitute (sym e ∙ known)
            ]
    go None known =
        let lit : ℕ = 2 * length m.substitutes in
        let place : variable lit ≡ length m.substitutes = omega arith in
        let last : get_or (m.substitutes ++ lit ∷ []) (variable lit) 0 ≡ 2 * variable lit = get_or_push m.substitutes lit 0 (variable lit) (sym place) ∙ ap (λ (v : ℕ). 2 * v) (sym place) in
        let P : ℕ → Type 0 = λ w. get_or (m.substitutes ++ lit ∷ []) (variable w) 0 ≡ 2 * variable w in
        record {
          some = omega (arith, length_push m.substitutes lit);
          constant = get_or_append_left m.substitutes (lit ∷ []) 0 0 own.some ∙ own.constant;
          each = each-of lit last;
          kept = λ other w e. elim (lookup_push (same_fan_ins other) m.kept (replaced_gate m.substitutes gate) lit w e) [
            | inl before ↦ still lit (variable w) (below.kept other w before) (own.kept other w before)
            | inr here ↦ subst P here.1 last
          ];
        }

-- both at once
record BelowAndOwn (m : Merging) : Type 0 where
  below : IsBelow m
  own : AreOwn m

module _ (g : Graph) (held : List ℕ) (valid : IsGraph g) where
  start-own : AreOwn (merging_start g held)
  start-own =
      let substitutes : List ℕ = (merging_start g held).substitutes in
      record {
        some = omega (arith, start-length g held);
        constant = start-entry g held 0 (omega (arith, start-length g held)) ∙ leaf-low g held 0 (omega arith);
        each = λ v h.
            let lit : ℕ = leaf_substitute g held v in
            let same : get_or substitutes v 0 ≡ lit = start-entry g held v h in
            let low : variable lit ≤ v = leaf_substitute-below g held v (omega (arith, start-length g held)) in
            let P : ℕ → Type 0 = λ l. get_or substitutes (variable l) 0 ≡ 2 * variable l in
            subst P (sym same) (start-entry g held (variable lit) (omega arith) ∙ leaf-own g held v (omega (arith, start-length g held)));
        kept = λ gate w e. absurd (none-some w e);
      }

  own-all : BelowAndOwn (merge_gates g.gates (merging_start g held))
  own-all = merge-all (λ m. BelowAndOwn m) (λ v gate. GateIn g held valid v gate) step g.gates (merging_start g held) (gates-in g held valid)
      (record { below = start-below g held; own = start-own })
    where
      step : (m : Merging) (gate : Gate) → BelowAndOwn m → GateIn g held valid (length m.substitutes) gate → BelowAndOwn (merge_gate m gate)
      step m gate both place =
          let at : IsGateAt (length m.substitutes) gate = place.at in
          record {
            below = below-merge_gate m both.below gate (omega arith) (omega arith);
            own = own-merge_gate m both.own both.below gate (omega arith) (omega arith);
          }

  -- the literal that stands for a literal stands for itself
  pub substitutes-own : (lit : ℕ) → variable lit < variables_end g → get_or (substitutes_of g held) (variable (replaced (substitutes_of g held) lit)) 0 ≡ 2 * variable (replaced (substitutes_of g held) lit)
  unfolding substitutes_of
  substitutes-own lit h = own-replaced (merge_gates g.gates (merging_start g held)) own-all.own lit (omega (arith, length-substitutes_of g held))

-- the entries at the start stay
module _ (g : Graph) (held : List ℕ) where
  pub record Keeps (v : ℕ) (m : Merging) : Type 0 where
    -- there are entries for all variables before the gates
    pub longer : first_gate g ≤ length m.substitutes
    -- the entry of the variable is what stood for it at the start
    pub same : get_or m.substitutes v 0 ≡ leaf_substitute g held v

  -- after all gates, what stands for a variable before them is what stood for it at the start
  pub substitutes-leaf : (v : ℕ) → v < first_gate g → get_or (substitutes_of g held) v 0 ≡ leaf_substitute g held v
  unfolding substitutes_of
  substitutes-leaf v h = (merge-all (λ m. Keeps v m) (λ w gate. Unit {0}) step g.gates (merging_start g held) (λ i gate e. tt) (record {
    longer = omega (arith, start-length g held);
    same = start-entry g held v (omega (arith, start-length g held));
  })).same
    where
      step : (m : Merging) (gate : Gate) → Keeps v m → Unit {0} → Keeps v (merge_gate m gate)
      step m gate keeps any = go (known_substitute m.kept (replaced_gate m.substitutes gate))
        where
          go : (o : Option ℕ) → Keeps v (with_substitute m (replaced_gate m.substitutes gate) o)
          go (Some substitute) = record {
            longer = omega (arith, length_push m.substitutes substitute, keeps.longer);
            same = get_or_append_left m.substitutes (substitute ∷ []) 0 v (omega (arith, keeps.longer)) ∙ keeps.same;
          }
          go None = record {
            longer = omega (arith, length_push m.substitutes (2 * length m.substitutes), keeps.longer);
            same = get_or_append_left m.substitutes (2 * length m.substitutes ∷ []) 0 v (omega (arith, keeps.longer)) ∙ keeps.same;
          }

  -- after all gates, the constant and each input stand for themselves
  pub substitutes-low : (v : ℕ) → v < first_latch g → get_or (substitutes_of g held) v 0 ≡ 2 * v
  substitutes-low v h = substitutes-leaf v (omega arith) ∙ leaf-low g held v h

  -- after all gates, a held latch stands for itself
  pub substitutes-held : (j : ℕ) → j < length g.latches → has held j ≡ true → get_or (substitutes_of g held) (first_latch g + j) 0 ≡ 2 * (first_latch g + j)
  substitutes-held j h holds = let there = element g.latches j h in substitutes-leaf (first_latch g + j) (omega arith) ∙ held-own g held j there.0 there.1 holds
