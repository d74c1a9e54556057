-- A step of a circuit is a step of what a pass leaves of it, if the substitute of each latch has
-- its value.
use Rattle.std.proofs.Common.{ℕ, ◌+◌, ◌-◌, ◌*◌, ◌<◌, ◌≤◌, ◌≡◌, inl, inr, suc, zero, length, Bool, true, false, not, ◌&&◌, nat_lt, Option, Some, None, slice_get, List, refl, arith, ap, sym, ◌∙◌, subst}
use Rattle.std.proofs.lemmas.Bool.{cases_Bool, cases_lt, cond-true, cond-false, lt-ltb, le-ltb}
use Rattle.std.proofs.lemmas.Option.{none-some, slice_get_within}
use Rattle.aig_graph.proofs.KindLaws.{element, kind_of, is_constant, is_input, is_latch, is_gate}
use Rattle.aig_graph.proofs.PropsLaws.{literals_within, of_literals}
use Rattle.aig_graph.proofs.SignLaws.{value_signed, value_signed_as, value-gate_of}
use Rattle.aig_graph.specs.Circuits.{IsNetlist, Netlist}
use Rattle.aig_graph.specs.Graph.{Graph, IsGraph, IsGateAt, IsLiteralOf, variable, first_latch, first_gate, variables_end, is_free, free_before}
use Rattle.aig_graph.specs.Streams.{chosen}
use Rattle.aig_graph.specs.Value.{Choice, latch_value, next_value, opening, opening_at, signed, value, value_within}
use Rattle.aig_graph.specs.declared.graph.Gate.{Gate}
use Rattle.aig_graph.specs.declared.graph.Latch.{Latch}
use Rattle.aig_graph.specs.declared.graph.Reset.{Reset}
use Rattle.aig_graph.specs.declared.graph.Reset.TheVariants.{Zero, One, Free}
use Rattle.cleaned_circuits.specs.Latches.{constant_of, latch_substitute, leaf_substitute}
use Rattle.cleaned_circuits.specs.Merged.{Merging, replaced, replaced_gate, replaced_latch, replaced_graph, substitutes_of, merged_of, merge_gate, merge_gates, merging_start}
use Rattle.cleaned_circuits.specs.Reached.{stays, HoldsReads}
use Rattle.cleaned_circuits.specs.Trimmed.{new_variable, renumbered, renumbered_latch, renumbered_gate, trimmed_graph, trimmed_of, kept_free}
use Rattle.cleaned_circuits.proofs.LatchLaws.{ConstantLatch, by_constant, by_itself, by_earlier, stands_for, constant_latch_where, latch_substitute-value}
use Rattle.cleaned_circuits.proofs.SubstituteLaws.{IsRight, right-merge_gate, replaced-value, replaced-within, merge-all, gates-in, GateIn, start-entry, start-length, length-substitutes_of}
use Rattle.cleaned_circuits.proofs.MergedLaws.{IsGraph-merged, IsNetlist-merged, replaced-inputs, replaced-first_latch, replaced-first_gate, replaced-latch, replaced-gate, replaced-free_before}
use Rattle.cleaned_circuits.proofs.TrimmedLaws.{LatchFrom, latch_from, latch_in, gate_in, new-low, new-rises, stays-past, stays-reached, trimmed-inputs, trimmed-first_latch, trimmed-first_gate, next-reached, fan_ins-reached, IsGraph-trimmed}
use Rattle.cleaned_circuits.proofs.KeptFreeLaws.{free-rank, kept_free-at}
use Rattle.aig_graph.proofs.PlacesLaws.{Ranks, at_rank, rank_at, count-pass, count-fail, count-zero, length-places}
use Rattle.aig_graph.proofs.ListLaws.{slice_get-map_none}
use Rattle.aig_graph.specs.Counting.{count_below, places}
use Rattle.state_maps.specs.States.{Digits, IsStateMap, SameReads, State, after_step, opening_state}
use Rattle.state_maps.specs.CleanedStates.{SubstitutesHold, held_by, trimmed_state}
use Rattle.state_maps.specs.Laws.{CleaningMaps}
use Rattle.state_maps.proofs.WithinLaws.{WithinLaws, within_laws}
use Rattle.state_maps.proofs.MapLaws.{mapped-reads, reads-transitive}
use Rattle.aig_graph.proofs.StreamLaws.{funext, opening-same}

-- the constant of a reset has one value in all states
pub constant-within : (g : Graph) (x y : Digits) (s t : State) → IsGraph g → (r : Reset) → value_within g x s (constant_of r) ≡ value_within g y t (constant_of r)
constant-within g x y s t valid Zero = (within_laws g valid x s).constant ∙ sym (within_laws g valid y t).constant
constant-within g x y s t valid One =
    (within_laws g valid x s).negation 0 ∙ ap not ((within_laws g valid x s).constant ∙ sym (within_laws g valid y t).constant) ∙ sym ((within_laws g valid y t).negation 0)
constant-within g x y s t valid Free = (within_laws g valid x s).constant ∙ sym (within_laws g valid y t).constant

-- what stands for the latches: at the start, and from step to step
module _ (g : Graph) (held : List ℕ) (valid : IsGraph g) where
  -- what stands for each latch is what it holds at the start
  pub substitutes-first : (f : Choice) → SubstitutesHold g held (opening_state g f)
  unfolding value latch_value
  substitutes-first f x j latch there =
      latch_substitute-value g valid held (λ t. x) f 0 j latch there
      ∙ (within_laws g valid x (opening_state g f)).latch j latch there

  -- and a step later if it was so before
  pub substitutes-keep : (x : Digits) (s : State) → SubstitutesHold g held s → SubstitutesHold g held (after_step g x s)
  substitutes-keep x s holds y j latch there =
      let now : WithinLaws g x s (value_within g x s) = within_laws g valid x s in
      let then : WithinLaws g y (after_step g x s) (value_within g y (after_step g x s)) = within_laws g valid y (after_step g x s) in
      let goes : after_step g x s j ≡ value_within g x s latch.next = ap (next_value (value_within g x s)) there in
      elim (stands_for g held j latch) [
        | by_constant constant_latch e ↦ (
            let why : ConstantLatch g j latch = constant_latch_where g held j latch constant_latch in
            let substitute : value_within g x s (constant_of latch.reset) ≡ s j = ap (value_within g x s) (sym e) ∙ holds x j latch there in
            let next : value_within g x s latch.next ≡ value_within g x s (constant_of latch.reset) = elim why.next [
              | inl own ↦ ap (value_within g x s) own ∙ now.latch j latch there ∙ sym substitute
              | inr constant ↦ ap (value_within g x s) constant
            ] in
            ap (value_within g y (after_step g x s)) e ∙ constant-within g y x (after_step g x s) s valid latch.reset ∙ sym next ∙ sym goes)
        | by_itself moving e ↦ ap (value_within g y (after_step g x s)) e ∙ then.latch j latch there
        | by_earlier i less first duplicate known apart e ↦
            ap (value_within g y (after_step g x s)) e ∙ then.latch i duplicate.other duplicate.there
            ∙ ap (next_value (value_within g x s)) duplicate.there ∙ ap (value_within g x s) duplicate.next ∙ sym goes
      ]

-- the merged circuit, in one state
module _ (g : Graph) (held : List ℕ) (valid : IsGraph g) (x : Digits) (s : State) (holds : SubstitutesHold g held s) where
  abbrev vals : ℕ → Bool
  vals lit = value_within g x s lit

  abbrev after : ℕ → Bool
  after lit = value_within (replaced_graph (substitutes_of g held) g) x s lit

  laws : WithinLaws g x s vals
  laws = within_laws g valid x s

  after-laws : WithinLaws (replaced_graph (substitutes_of g held) g) x s after
  after-laws = within_laws (replaced_graph (substitutes_of g held) g) (IsGraph-merged g held valid) x s

  leaf-value : (v : ℕ) → v < first_gate g → vals (leaf_substitute g held v) ≡ vals (2 * v)
  unfolding leaf_substitute
  leaf-value v h =
      let other : ℕ = latch_substitute g held (v - first_latch g) (slice_get g.latches (v - first_latch g)) in
      elim (cases_lt v (first_latch g)) [
        | inl low ↦ ap vals (cond-true (nat_lt v (first_latch g)) (2 * v) other (lt-ltb v (first_latch g) low))
        | inr past ↦ (
            let there = element g.latches (v - first_latch g) (omega arith) in
            let place : 2 * (first_latch g + (v - first_latch g)) ≡ 2 * v = omega arith in
            ap vals (cond-false (nat_lt v (first_latch g)) (2 * v) other (le-ltb v (first_latch g) past))
            ∙ ap (λ (o : Option Latch). vals (latch_substitute g held (v - first_latch g) o)) there.1
            ∙ holds x (v - first_latch g) there.0 there.1 ∙ sym (laws.latch (v - first_latch g) there.0 there.1) ∙ ap vals place)
      ]

  right-all : IsRight vals laws.negation laws.constant (merge_gates g.gates (merging_start g held))
  right-all = merge-all (λ m. IsRight vals laws.negation laws.constant m) (λ v gate. GateIn g held valid v gate) step g.gates (merging_start g held) (gates-in g held valid) (record {
    each = λ v h. ap vals (start-entry g held v h) ∙ leaf-value v (omega (arith, start-length g held));
    kept = λ gate w e. absurd (none-some w e);
  })
    where
      step : (m : Merging) (gate : Gate) → IsRight vals laws.negation laws.constant m → GateIn g held valid (length m.substitutes) gate → IsRight vals laws.negation laws.constant (merge_gate m gate)
      step m gate right place =
          let at : IsGateAt (length m.substitutes) gate = place.at in
          let here : vals (2 * length m.substitutes) ≡ (vals gate.rhs0 && vals gate.rhs1) = ap (λ (n : ℕ). vals (2 * n)) place.variable_is ∙ laws.gate place.place gate place.there in
          right-merge_gate vals laws.negation laws.constant m right gate (omega arith) (omega arith) here

  substitute-value : (lit : ℕ) → variable lit < variables_end g → vals (replaced (substitutes_of g held) lit) ≡ vals lit
  unfolding substitutes_of
  substitute-value lit h =
      replaced-value vals laws.negation laws.constant (substitutes_of g held) lit (right-all.each (variable lit) (omega (arith, length-substitutes_of g held)))

  signed-same : (lit : ℕ) → after (2 * variable lit) ≡ vals (2 * variable lit) → after lit ≡ vals lit
  signed-same lit same = value_signed after after-laws.negation lit ∙ ap (signed lit) same ∙ sym (value_signed vals laws.negation lit)

  variable-value : (n v : ℕ) → v < n → v < variables_end g → after (2 * v) ≡ vals (2 * v)
  variable-value zero v h within = absurd (omega arith)
  variable-value (suc n) v h within =
      let substitutes : List ℕ = substitutes_of g held in
      elim (kind_of g v within) [
        | is_constant e ↦ (let zero_is : 2 * v ≡ 0 = omega arith in ap after zero_is ∙ after-laws.constant ∙ sym laws.constant ∙ ap vals (sym zero_is))
        | is_input i less e ↦ (
            let place : 2 * v ≡ 2 * (1 + i) = omega arith in
            ap after place ∙ after-laws.input i (omega (arith, replaced-inputs substitutes g)) ∙ sym (laws.input i less) ∙ ap vals (sym place))
        | is_latch j latch there e ↦ (
            let place : 2 * v ≡ 2 * (first_latch g + j) = omega arith in
            let new_place : 2 * v ≡ 2 * (first_latch (replaced_graph substitutes g) + j) = omega (arith, replaced-first_latch substitutes g) in
            ap after new_place ∙ after-laws.latch j (replaced_latch substitutes latch) (replaced-latch substitutes g j latch there) ∙ sym (laws.latch j latch there) ∙ ap vals (sym place))
        | is_gate k gate there e ↦ (
            let at : IsGateAt (first_gate g + k) gate = valid.gates k gate there in
            let place : 2 * v ≡ 2 * (first_gate g + k) = omega arith in
            let new_place : 2 * v ≡ 2 * (first_gate (replaced_graph substitutes g) + k) = omega (arith, replaced-first_gate substitutes g) in
            let one : after (replaced substitutes gate.rhs0) ≡ vals gate.rhs0 =
            signed-same (replaced substitutes gate.rhs0) (variable-value n (variable (replaced substitutes gate.rhs0))
            (omega (arith, replaced-within g held valid gate.rhs0 (omega arith))) (omega (arith, replaced-within g held valid gate.rhs0 (omega arith)))) ∙ substitute-value gate.rhs0 (omega arith) in
            let two : after (replaced substitutes gate.rhs1) ≡ vals gate.rhs1 =
            signed-same (replaced substitutes gate.rhs1) (variable-value n (variable (replaced substitutes gate.rhs1))
            (omega (arith, replaced-within g held valid gate.rhs1 (omega arith))) (omega (arith, replaced-within g held valid gate.rhs1 (omega arith)))) ∙ substitute-value gate.rhs1 (omega arith) in
            ap after new_place ∙ after-laws.gate k (replaced_gate substitutes gate) (replaced-gate substitutes g k gate there)
            ∙ value-gate_of after (replaced substitutes gate.rhs0) (replaced substitutes gate.rhs1)
            ∙ ap (λ (b : Bool). b && after (replaced substitutes gate.rhs1)) one ∙ ap (λ (b : Bool). vals gate.rhs0 && b) two
            ∙ sym (laws.gate k gate there) ∙ ap vals (sym place))
      ]

  -- what stands for a literal has in the merged circuit the value that the literal has in the
  -- circuit
  pub merged-value : (lit : ℕ) → variable lit < variables_end g → after (replaced (substitutes_of g held) lit) ≡ vals lit
  merged-value lit within =
      signed-same (replaced (substitutes_of g held) lit) (variable-value (suc (variable (replaced (substitutes_of g held) lit))) (variable (replaced (substitutes_of g held) lit)) (omega arith)
      (omega (arith, replaced-within g held valid lit within))) ∙ substitute-value lit within

  -- so it is one step
  pub merged-step : after_step (replaced_graph (substitutes_of g held) g) x s ≡ after_step g x s
  unfolding replaced_graph
  merged-step = funext _ _ at
    where
      at : (j : ℕ) → after_step (replaced_graph (substitutes_of g held) g) x s j ≡ after_step g x s j
      at j = go (slice_get g.latches j) refl
        where
          go : (o : Option Latch) → slice_get g.latches j ≡ o → after_step (replaced_graph (substitutes_of g held) g) x s j ≡ after_step g x s j
          go None e = ap (next_value after) (none-there j e) ∙ sym (ap (next_value vals) e)
            where
              none-there : (j : ℕ) → slice_get g.latches j ≡ None → slice_get (replaced_graph (substitutes_of g held) g).latches j ≡ None
              none-there j e = slice_get-map_none (replaced_latch (substitutes_of g held)) g.latches j e
          go (Some latch) e = ap (next_value after) (replaced-latch (substitutes_of g held) g j latch e) ∙ merged-value latch.next (valid.latches j latch e) ∙ sym (ap (next_value vals) e)

  -- the merged circuit has the first states of the circuit
  pub merged-first : (f : Choice) → opening_state (replaced_graph (substitutes_of g held) g) f ≡ opening_state g f
  unfolding replaced_graph
  merged-first f = funext _ _ at
    where
      at : (j : ℕ) → opening_state (replaced_graph (substitutes_of g held) g) f j ≡ opening_state g f j
      at j = go (slice_get g.latches j) refl
        where
          go : (o : Option Latch) → slice_get g.latches j ≡ o → opening_state (replaced_graph (substitutes_of g held) g) f j ≡ opening_state g f j
          go None e =
              ap (opening_at (replaced_graph (substitutes_of g held) g) f j) (slice_get-map_none (replaced_latch (substitutes_of g held)) g.latches j e)
              ∙ sym (ap (opening_at g f j) e)
          go (Some latch) e =
              ap (opening_at (replaced_graph (substitutes_of g held) g) f j) (replaced-latch (substitutes_of g held) g j latch e)
              ∙ ap (λ (n : ℕ). opening latch.reset (f n)) (replaced-free_before (substitutes_of g held) g j)
              ∙ sym (ap (opening_at g f j) e)

-- the new variable of a latch, by its rank among those that stay
module _ (g : Graph) (r : ℕ → Bool) where
  abbrev remains : ℕ → Bool
  remains j = r (first_latch g + j)

  -- past the inputs, the new variable of a latch is the number of latches before it that stay
  pub new-rank : (j : ℕ) → new_variable g r (first_latch g + j) ≡ first_latch g + count_below remains j
  new-rank zero =
      let place : first_latch g + 0 ≡ first_latch g = omega arith in
      omega (arith, ap (new_variable g r) place, new-low g r (first_latch g) (omega arith), count-zero remains)
  new-rank (suc j) =
      let place : first_latch g + suc j ≡ suc (first_latch g + j) = omega arith in
      let at : new_variable g r (first_latch g + suc j) ≡ count_below (stays g r) (suc (first_latch g + j)) = ap (new_variable g r) place in
      elim (cases_Bool (r (first_latch g + j))) [
        | inl reached ↦ omega (arith, at, new-rank j, count-pass (stays g r) (first_latch g + j) (stays-reached g r (first_latch g + j) reached), count-pass remains j reached)
        | inr dropped ↦ omega (arith, at, new-rank j, count-fail (stays g r) (first_latch g + j) (stays-past g r (first_latch g + j) (omega arith) ∙ dropped), count-fail remains j dropped)
      ]

-- the trimmed circuit
module _ (c : Netlist) (held : List ℕ) (r : ℕ → Bool) (valid : IsGraph c.aig) (holds : HoldsReads c.aig c.props held r) where
  abbrev long : ℕ
  long = length c.aig.latches

  abbrev small : Graph
  small = trimmed_graph c.aig r

  -- a latch that remains has, renumbered, its rank among those that remain as its place in the
  -- trimmed circuit
  pub small-latch : (j : ℕ) (latch : Latch) → slice_get c.aig.latches j ≡ Some latch → r (first_latch c.aig + j) ≡ true
      → slice_get small.latches (count_below (remains c.aig r) j) ≡ Some (renumbered_latch c.aig r latch)
  small-latch j latch there reached = latch_in c.aig r j (count_below (remains c.aig r) j) latch there reached (sym (new-rank c.aig r j))

  small-none : (k : ℕ) → slice_get (places (remains c.aig r) long) k ≡ None → slice_get small.latches k ≡ None
  small-none k none = go (slice_get small.latches k) refl
    where
      go : (o : Option Latch) → slice_get small.latches k ≡ o → slice_get small.latches k ≡ None
      go None e = e
      go (Some latch) e =
          let from : LatchFrom c.aig r k latch = latch_from c.aig r k latch e in
          let rank : count_below (remains c.aig r) from.place ≡ k = omega (arith, from.rank, new-rank c.aig r from.place) in
          let here : slice_get (places (remains c.aig r) long) (count_below (remains c.aig r) from.place) ≡ Some from.place =
          at_rank (remains c.aig r) long from.place (slice_get_within c.aig.latches from.place from.old from.there) from.reached in
          absurd (none-some from.place (sym none ∙ ap (slice_get (places (remains c.aig r) long)) (sym rank) ∙ here))

  -- there are as many latches as stay
  pub small-many : length small.latches ≡ length (places (remains c.aig r) long)
  small-many = omega (arith, trimmed-first_gate c.aig r, trimmed-inputs c.aig r, new-rank c.aig r long, length-places (remains c.aig r) long)

  module _ (x : Digits) (s : State) where
    abbrev before : ℕ → Bool
    before lit = value_within c.aig x s lit

    abbrev trimmed : ℕ → Bool
    trimmed lit = value_within small x (trimmed_state c.aig r s) lit

    before-laws : WithinLaws c.aig x s before
    before-laws = within_laws c.aig valid x s

    trimmed-laws : WithinLaws small x (trimmed_state c.aig r s) trimmed
    trimmed-laws = within_laws small (IsGraph-trimmed c held r valid holds) x (trimmed_state c.aig r s)

    latch-value : (j : ℕ) (latch : Latch) → slice_get c.aig.latches j ≡ Some latch → r (first_latch c.aig + j) ≡ true
        → trimmed (2 * new_variable c.aig r (first_latch c.aig + j)) ≡ before (2 * (first_latch c.aig + j))
    latch-value j latch there reached =
        let rank : ℕ = count_below (remains c.aig r) j in
        let place : 2 * new_variable c.aig r (first_latch c.aig + j) ≡ 2 * (first_latch small + rank) = omega (arith, new-rank c.aig r j, trimmed-first_latch c.aig r) in
        ap trimmed place
        ∙ trimmed-laws.latch rank (renumbered_latch c.aig r latch) (small-latch j latch there reached)
        ∙ ap (held_by s) (at_rank (remains c.aig r) long j (slice_get_within c.aig.latches j latch there) reached)
        ∙ sym (before-laws.latch j latch there)

    literal-same : (lit : ℕ) → trimmed (2 * new_variable c.aig r (variable lit)) ≡ before (2 * variable lit) → trimmed (renumbered c.aig r lit) ≡ before lit
    literal-same lit same =
        value_signed_as trimmed trimmed-laws.negation lit (2 * new_variable c.aig r (variable lit))
        ∙ ap (signed lit) same ∙ sym (value_signed before before-laws.negation lit)

    reached-value : (n v : ℕ) → v < n → v < variables_end c.aig → stays c.aig r v ≡ true → trimmed (2 * new_variable c.aig r v) ≡ before (2 * v)
    reached-value zero v h within reached = absurd (omega arith)
    reached-value (suc n) v h within reached = elim (kind_of c.aig v within) [
      | is_constant e ↦ (
          let new : 2 * new_variable c.aig r v ≡ 0 = omega (arith, new-low c.aig r v (omega arith)) in
          let old : 2 * v ≡ 0 = omega arith in
          ap trimmed new ∙ trimmed-laws.constant ∙ sym before-laws.constant ∙ ap before (sym old))
      | is_input i less e ↦ (
          let new : 2 * new_variable c.aig r v ≡ 2 * (1 + i) = omega (arith, new-low c.aig r v (omega arith)) in
          let old : 2 * v ≡ 2 * (1 + i) = omega arith in
          ap trimmed new ∙ trimmed-laws.input i (omega (arith, trimmed-inputs c.aig r)) ∙ sym (before-laws.input i less) ∙ ap before (sym old))
      | is_latch j latch there e ↦ (
          let new : 2 * new_variable c.aig r v ≡ 2 * new_variable c.aig r (first_latch c.aig + j) = ap (λ (w : ℕ). 2 * new_variable c.aig r w) e in
          ap trimmed new ∙ latch-value j latch there (ap r (sym e) ∙ sym (stays-past c.aig r v (omega arith)) ∙ reached) ∙ ap (λ (w : ℕ). before (2 * w)) (sym e))
      | is_gate k gate there e ↦ (
          let at : IsGateAt (first_gate c.aig + k) gate = valid.gates k gate there in
          let here : r (first_gate c.aig + k) ≡ true = ap r (sym e) ∙ sym (stays-past c.aig r v (omega arith)) ∙ reached in
          let ins = fan_ins-reached c held r valid holds k gate there here in
          let one : trimmed (renumbered c.aig r gate.rhs0) ≡ before gate.rhs0 =
          literal-same gate.rhs0 (reached-value n (variable gate.rhs0) (omega arith) (omega arith) ins.0) in
          let two : trimmed (renumbered c.aig r gate.rhs1) ≡ before gate.rhs1 =
          literal-same gate.rhs1 (reached-value n (variable gate.rhs1) (omega arith) (omega arith) ins.1) in
          let m : ℕ = new_variable c.aig r (first_gate c.aig + k) - first_gate small in
          let low : new_variable c.aig r (first_gate c.aig) ≤ new_variable c.aig r (first_gate c.aig + k) = new-rises c.aig r (first_gate c.aig) (first_gate c.aig + k) (omega arith) in
          let rank : first_gate small + m ≡ new_variable c.aig r (first_gate c.aig + k) = omega (arith, trimmed-first_gate c.aig r) in
          let new : 2 * new_variable c.aig r v ≡ 2 * (first_gate small + m) = ap (λ (w : ℕ). 2 * new_variable c.aig r w) e ∙ ap (λ (w : ℕ). 2 * w) (sym rank) in
          ap trimmed new
          ∙ trimmed-laws.gate m (renumbered_gate c.aig r gate) (gate_in c.aig r k m gate there here rank)
          ∙ value-gate_of trimmed (renumbered c.aig r gate.rhs0) (renumbered c.aig r gate.rhs1)
          ∙ ap (λ (b : Bool). b && trimmed (renumbered c.aig r gate.rhs1)) one ∙ ap (λ (b : Bool). before gate.rhs0 && b) two
          ∙ sym (before-laws.gate k gate there) ∙ ap (λ (w : ℕ). before (2 * w)) (sym e))
    ]

    -- a literal that stays keeps its value in the trimmed circuit, under its new number
    pub trimmed-value : (lit : ℕ) → variable lit < variables_end c.aig → stays c.aig r (variable lit) ≡ true → trimmed (renumbered c.aig r lit) ≡ before lit
    trimmed-value lit within reached = literal-same lit (reached-value (suc (variable lit)) (variable lit) (omega arith) within reached)

    -- what the latches that remain hold a step later is what the trimmed circuit's latches hold a
    -- step later
    pub trimmed-step : trimmed_state c.aig r (after_step c.aig x s) ≡ after_step small x (trimmed_state c.aig r s)
    trimmed-step = funext _ _ at
      where
        at : (k : ℕ) → trimmed_state c.aig r (after_step c.aig x s) k ≡ after_step small x (trimmed_state c.aig r s) k
        at k = go (slice_get (places (remains c.aig r) long) k) refl
          where
            go : (o : Option ℕ) → slice_get (places (remains c.aig r) long) k ≡ o → trimmed_state c.aig r (after_step c.aig x s) k ≡ after_step small x (trimmed_state c.aig r s) k
            go None e = ap (held_by (after_step c.aig x s)) e ∙ sym (ap (next_value trimmed) (small-none k e))
            go (Some j) e =
                let ranks : Ranks (remains c.aig r) long k j = rank_at (remains c.aig r) long k j e in
                let there = element c.aig.latches j ranks.below in
                let latch : Latch = there.0 in
                ap (held_by (after_step c.aig x s)) e
                ∙ ap (next_value before) there.1
                ∙ sym (trimmed-value latch.next (valid.latches j latch there.1) (next-reached c held r valid holds j latch there.1 ranks.passes))
                ∙ sym (ap (next_value trimmed) (ap (slice_get small.latches) (sym ranks.rank) ∙ small-latch j latch there.1 ranks.passes))

  -- what the latches that remain hold at step 0 is the first state of the trimmed circuit for the
  -- choice of the kept free latches
  pub trimmed-first : (f : Choice) → trimmed_state c.aig r (opening_state c.aig f) ≡ opening_state small (chosen (kept_free c.aig r) f)
  trimmed-first f = funext _ _ at
    where
      at : (k : ℕ) → trimmed_state c.aig r (opening_state c.aig f) k ≡ opening_state small (chosen (kept_free c.aig r) f) k
      at k = go (slice_get (places (remains c.aig r) long) k) refl
        where
          go : (o : Option ℕ) → slice_get (places (remains c.aig r) long) k ≡ o → trimmed_state c.aig r (opening_state c.aig f) k ≡ opening_state small (chosen (kept_free c.aig r) f) k
          go None e = ap (held_by (opening_state c.aig f)) e ∙ sym (ap (opening_at small (chosen (kept_free c.aig r) f) k) (small-none k e))
          go (Some j) e =
              let ranks : Ranks (remains c.aig r) long k j = rank_at (remains c.aig r) long k j e in
              let there = element c.aig.latches j ranks.below in
              let latch : Latch = there.0 in
              let rank : first_latch c.aig + k ≡ new_variable c.aig r (first_latch c.aig + j) = omega (arith, new-rank c.aig r j, ranks.rank) in
              let same : is_free latch ≡ true → f (free_before c.aig j) ≡ chosen (kept_free c.aig r) f (free_before small k) =
              λ free. sym (ap (chosen (kept_free c.aig r) f) (free-rank c.aig r j k (omega (arith, ranks.below)) rank) ∙ ap f (kept_free-at c.aig r j latch there.1 free ranks.passes)) in
              ap (held_by (opening_state c.aig f)) e
              ∙ ap (opening_at c.aig f j) there.1
              ∙ opening-same latch.reset latch.next (f (free_before c.aig j)) (chosen (kept_free c.aig r) f (free_before small k)) same
              ∙ sym (ap (opening_at small (chosen (kept_free c.aig r) f) k) (ap (slice_get small.latches) (sym ranks.rank) ∙ small-latch j latch there.1 ranks.passes))

-- a pass maps states, if the substitute of each latch has its value
pub cleaning-maps : (held : List ℕ) (c d : Netlist) (kept still_held : List ℕ) → CleaningMaps held c d kept still_held
cleaning-maps held c d kept still_held valid netlist pass =
    let m : Netlist = merged_of held c in
    let r : ℕ → Bool = pass.reached in
    let whole : IsGraph m.aig = IsGraph-merged c.aig held valid in
    let named : IsNetlist m = IsNetlist-merged held c valid netlist in
    let P : Netlist → Type 0 = λ e. IsStateMap c e (kept_free m.aig r) (SubstitutesHold c.aig held) (trimmed_state m.aig r) in
    let Q : List ℕ → Type 0 = λ places. IsStateMap c d places (SubstitutesHold c.aig held) (trimmed_state m.aig r) in
    subst Q (sym pass.free) (subst P (sym pass.circuit) (record {
      holds_first = λ f. substitutes-first c.aig held valid f;
      first = λ f. ap (trimmed_state m.aig r) (sym (merged-first c.aig held valid (λ i. false) (opening_state c.aig f) (substitutes-first c.aig held valid f) f)) ∙ trimmed-first m held r whole pass.are_reached.holds f;
      keeps = λ x s holds. substitutes-keep c.aig held valid x s holds;
      steps = λ x s holds. ap (trimmed_state m.aig r) (sym (merged-step c.aig held valid x s holds)) ∙ trimmed-step m held r whole pass.are_reached.holds x s;
      reads = λ x s holds. both-read c held r valid netlist x s holds pass.are_reached.holds;
    }))
  where
    both-read : (c : Netlist) (held : List ℕ) (r : ℕ → Bool) → IsGraph c.aig → IsNetlist c → (x : Digits) (s : State) → SubstitutesHold c.aig held s
        → HoldsReads (merged_of held c).aig (merged_of held c).props held r → SameReads c (trimmed_of (merged_of held c) r) x s (trimmed_state (merged_of held c).aig r s)
    both-read c held r valid netlist x s holds reached =
        let m : Netlist = merged_of held c in
        let whole : IsGraph m.aig = IsGraph-merged c.aig held valid in
        let named : IsNetlist m = IsNetlist-merged held c valid netlist in
        let one : SameReads c m x s s =
        mapped-reads (replaced (substitutes_of c.aig held)) (λ lit. IsLiteralOf c.aig lit) c m x s s refl
        (of_literals (λ lit. IsLiteralOf c.aig lit) c.props (literals_within c.aig c.props netlist.props)) (merged-value c.aig held valid x s holds) in
        let two : SameReads m (trimmed_of m r) x s (trimmed_state m.aig r s) =
        mapped-reads (renumbered m.aig r) (λ lit. IsLiteralOf m.aig lit × (stays m.aig r (variable lit) ≡ true)) m (trimmed_of m r) x s (trimmed_state m.aig r s) refl
        (of_literals (λ lit. IsLiteralOf m.aig lit × (stays m.aig r (variable lit) ≡ true)) m.props
        (λ k d h. (literals_within m.aig m.props named.props k d h, reached.properties k d h)))
        (λ lit both. trimmed-value m held r whole reached x s lit both.0 both.1) in
        reads-transitive c m (trimmed_of m r) x s s (trimmed_state m.aig r s) one two
