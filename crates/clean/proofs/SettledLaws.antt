-- What a pass leaves is normalised, if each latch is its own substitute.
use Rattle.std.proofs.Common.{ℕ, ◌+◌, ◌-◌, ◌*◌, ◌<◌, ◌≤◌, ◌≡◌, inl, inr, List, length, map, Bool, true, ◌&&◌, Some, slice_get, get_or, arith, ap, sym, ◌∙◌, subst}
use Rattle.std.specs.List.{All}
use Rattle.std.proofs.lemmas.Bool.{cases_lt, and_from, and_parts}
use Rattle.std.proofs.lemmas.List.{get_or-map, length-map}
use Rattle.aig_graph.specs.declared.graph.Gate.{Gate}
use Rattle.aig_graph.specs.Building.{gate_of}
use Rattle.aig_graph.specs.Circuits.{Netlist}
use Rattle.aig_graph.specs.Graph.{Graph, IsGraph, IsGateAt, variable, first_latch, first_gate, variables_end, gate_at, latch_at}
use Rattle.aig_graph.specs.Streams.{property_literals}
use Rattle.aig_graph.proofs.FoldingLaws.{gate_at-first_gate}
use Rattle.aig_graph.proofs.KindLaws.{GatePlace, LatchPlace, element, gate_place, latch_at-first_latch, latch_place}
use Rattle.aig_graph.proofs.PropsLaws.{mapped-literals}
use Rattle.cleaned_circuits.specs.Cleaned.{IsPass}
use Rattle.cleaned_circuits.specs.Merged.{merged_of, replaced_gate, substitutes_of}
use Rattle.cleaned_circuits.specs.Reached.{AreReached, HoldsReads, stays}
use Rattle.cleaned_circuits.specs.Trimmed.{new_position, new_variable, renumbered, renumbered_gate, renumbered_latch, trimmed_graph, trimmed_of}
use Rattle.cleaned_circuits.proofs.MergedLaws.{from_gate, replaced-first_gate}
use Rattle.cleaned_circuits.proofs.PassLaws.{IsCircuit, IsCircuit-merged}
use Rattle.cleaned_circuits.proofs.TrimmedLaws.{GateFrom, LatchFrom, fan_ins-reached, gate_from, gate_in, latch_from, latch_in, new-from, new-less, new-rises, renumbered-variable, stays-low, stays-past, stays-reached, trimmed-first_gate, trimmed-first_latch}
use Rattle.cleaned_circuits.proofs.UnchangedLaws.{reached-own}
use Rattle.clean.specs.Normalised.{IsPlain, IsNormalised}
use Rattle.clean.proofs.CleanLaws.{latches-moving, latches-single}
use Rattle.clean.proofs.SpotLaws.{pair-one, plain-of, same-rank}
use Rattle.clean.specs.Settled.{AreOwnLatches}
use Rattle.clean.proofs.PlainLaws.{pairs-own, plain-own}

-- what holds of both fan-ins of a pair holds of both literals
both-fan_ins : (P : ℕ → Type 0) (a b : ℕ) → P (gate_of a b).rhs0 → P (gate_of a b).rhs1 → P a × P b
both-fan_ins P a b first second = elim (cases_lt a b) [
  | inl less ↦ (
      let large : (gate_of a b).rhs0 ≡ b = omega arith in
      let small : (gate_of a b).rhs1 ≡ a = omega arith in
      (subst P small second, subst P large first))
  | inr more ↦ (
      let large : (gate_of a b).rhs0 ≡ a = omega arith in
      let small : (gate_of a b).rhs1 ≡ b = omega arith in
      (subst P large first, subst P small second))
]

-- what holds of all images holds of each one's origin
All-unmap : (P : ℕ → Type 0) (f : ℕ → ℕ) (xs : List ℕ) → All P (map f xs) → All (λ x. P (f x)) xs
All-unmap P f xs all = λ k d h. subst P (get_or-map f xs k d (f d) h) (all k (f d) (omega (arith, h, length-map xs f)))

-- a set of what a trimmed circuit's properties read, seen in the circuit before
module _ (c : Netlist) (held : List ℕ) (s : ℕ → Bool) (valid : IsGraph c.aig) (holds : HoldsReads c.aig c.props held s) (r : ℕ → Bool)
    (reads : HoldsReads (trimmed_graph c.aig s) (trimmed_of c s).props (map (new_position c.aig s) held) r) where
  abbrev before : ℕ → Bool
  before v = s v && r (new_variable c.aig s v)

  -- what stays in both stays before
  stays-before : (v : ℕ) → stays c.aig s v ≡ true → stays (trimmed_graph c.aig s) r (new_variable c.aig s v) ≡ true → stays c.aig before v ≡ true
  stays-before v stayed told = elim (cases_lt v (first_latch c.aig)) [
    | inl low ↦ stays-low c.aig before v low
    | inr past ↦ stays-reached c.aig before v (and_from (s v) (r (new_variable c.aig s v)) (sym (stays-past c.aig s v past) ∙ stayed)
        (sym (stays-past (trimmed_graph c.aig s) r (new_variable c.aig s v) (omega (arith, new-from c.aig s v past, trimmed-first_latch c.aig s))) ∙ told))
  ]

  literal-before : (lit : ℕ) → stays c.aig s (variable lit) ≡ true → stays (trimmed_graph c.aig s) r (variable (renumbered c.aig s lit)) ≡ true → stays c.aig before (variable lit) ≡ true
  literal-before lit stayed told = stays-before (variable lit) stayed (ap (stays (trimmed_graph c.aig s) r) (sym (renumbered-variable c.aig s lit)) ∙ told)

  holds-before : HoldsReads c.aig c.props held before
  holds-before = record {
    all_held = λ k d h.
        let j : ℕ = get_or held k d in
        let P : ℕ → Type 0 = λ i. r (first_latch (trimmed_graph c.aig s) + i) ≡ true in
        let at : r (first_latch (trimmed_graph c.aig s) + new_position c.aig s j) ≡ true = All-unmap P (new_position c.aig s) held reads.all_held k d h in
        let place : first_latch (trimmed_graph c.aig s) + new_position c.aig s j ≡ new_variable c.aig s (first_latch c.aig + j) =
        omega (arith, trimmed-first_latch c.aig s, new-from c.aig s (first_latch c.aig + j) (omega arith)) in
        and_from (s (first_latch c.aig + j)) (r (new_variable c.aig s (first_latch c.aig + j))) (holds.all_held k d h) (ap r (sym place) ∙ at);
    properties = λ k d h.
        let lit : ℕ = get_or (property_literals c.props) k d in
        let P : ℕ → Type 0 = λ x. stays (trimmed_graph c.aig s) r (variable x) ≡ true in
        let told : All P (map (renumbered c.aig s) (property_literals c.props)) = subst (λ (xs : List ℕ). All P xs) (mapped-literals (renumbered c.aig s) c.props) reads.properties in
        literal-before lit (holds.properties k d h) (All-unmap P (renumbered c.aig s) (property_literals c.props) told k d h);
    gates = λ v gate e told.
        let place : GatePlace c.aig v gate = gate_place c.aig v gate e in
        let k : ℕ = v - first_gate c.aig in
        let is : first_gate c.aig + k ≡ v = omega (arith, place.from) in
        let parts = and_parts (s v) (r (new_variable c.aig s v)) told in
        let m : ℕ = new_variable c.aig s v - first_gate (trimmed_graph c.aig s) in
        let past : first_gate (trimmed_graph c.aig s) ≤ new_variable c.aig s v = omega (arith, trimmed-first_gate c.aig s, new-rises c.aig s (first_gate c.aig) v place.from) in
        let new : first_gate (trimmed_graph c.aig s) + m ≡ new_variable c.aig s v = omega (arith, past) in
        let there : slice_get (trimmed_graph c.aig s).gates m ≡ Some (renumbered_gate c.aig s gate) =
        gate_in c.aig s k m gate place.there (ap s is ∙ parts.0) (new ∙ ap (new_variable c.aig s) (sym is)) in
        let at : gate_at (trimmed_graph c.aig s) (new_variable c.aig s v) ≡ Some (renumbered_gate c.aig s gate) =
        ap (gate_at (trimmed_graph c.aig s)) (sym new) ∙ gate_at-first_gate (trimmed_graph c.aig s) m ∙ there in
        let read = reads.gates (new_variable c.aig s v) (renumbered_gate c.aig s gate) at parts.1 in
        let both = both-fan_ins (λ x. stays (trimmed_graph c.aig s) r (variable x) ≡ true) (renumbered c.aig s gate.rhs0) (renumbered c.aig s gate.rhs1) read.0 read.1 in
        let stayed = holds.gates v gate e parts.0 in
        (literal-before gate.rhs0 stayed.0 both.0, literal-before gate.rhs1 stayed.1 both.1);
    latches = λ v latch e told.
        let place : LatchPlace c.aig v latch = latch_place c.aig v latch e in
        let j : ℕ = v - first_latch c.aig in
        let is : first_latch c.aig + j ≡ v = omega (arith, place.from) in
        let parts = and_parts (s v) (r (new_variable c.aig s v)) told in
        let m : ℕ = new_variable c.aig s v - first_latch c.aig in
        let new : first_latch c.aig + m ≡ new_variable c.aig s v = omega (arith, new-from c.aig s v place.from) in
        let there : slice_get (trimmed_graph c.aig s).latches m ≡ Some (renumbered_latch c.aig s latch) =
        latch_in c.aig s j m latch place.there (ap s is ∙ parts.0) (new ∙ ap (new_variable c.aig s) (sym is)) in
        let here : first_latch (trimmed_graph c.aig s) + m ≡ new_variable c.aig s v = omega (arith, new, trimmed-first_latch c.aig s) in
        let at : latch_at (trimmed_graph c.aig s) (new_variable c.aig s v) ≡ Some (renumbered_latch c.aig s latch) =
        ap (latch_at (trimmed_graph c.aig s)) (sym here) ∙ latch_at-first_latch (trimmed_graph c.aig s) m ∙ there in
        literal-before latch.next (holds.latches v latch e parts.0) (reads.latches (new_variable c.aig s v) (renumbered_latch c.aig s latch) at parts.1);
  }

  -- each latch and gate of the trimmed circuit is one that stays
  all-read : ((v : ℕ) → s v ≡ true → before v ≡ true) → (w : ℕ) → first_latch (trimmed_graph c.aig s) ≤ w → w < variables_end (trimmed_graph c.aig s) → r w ≡ true
  all-read least w past less = elim (cases_lt w (first_gate (trimmed_graph c.aig s))) [
    | inl latch_is ↦ (
        let m : ℕ = w - first_latch (trimmed_graph c.aig s) in
        let there = element (trimmed_graph c.aig s).latches m (omega (arith, past, latch_is)) in
        let from : LatchFrom c.aig s m there.0 = latch_from c.aig s m there.0 there.1 in
        let place : new_variable c.aig s (first_latch c.aig + from.place) ≡ w = omega (arith, from.rank, trimmed-first_latch c.aig s, past) in
        ap r (sym place) ∙ (and_parts (s (first_latch c.aig + from.place)) (r (new_variable c.aig s (first_latch c.aig + from.place))) (least (first_latch c.aig + from.place) from.reached)).1)
    | inr gate_is ↦ (
        let m : ℕ = w - first_gate (trimmed_graph c.aig s) in
        let there = element (trimmed_graph c.aig s).gates m (omega (arith, less, gate_is)) in
        let from : GateFrom c.aig s m there.0 = gate_from c.aig s m there.0 there.1 in
        let place : new_variable c.aig s (first_gate c.aig + from.place) ≡ w = omega (arith, from.rank, gate_is) in
        ap r (sym place) ∙ (and_parts (s (first_gate c.aig + from.place)) (r (new_variable c.aig s (first_gate c.aig + from.place))) (least (first_gate c.aig + from.place) from.reached)).1)
  ]

-- the gates of what a pass leaves
module _ (held : List ℕ) (c : Netlist) (valid : IsCircuit c) (in_range : All (λ j. j < length c.aig.latches) held) (s : ℕ → Bool)
    (reached : AreReached (merged_of held c).aig (merged_of held c).props held s) where
  abbrev merged : Graph
  merged = (merged_of held c).aig

  graph : IsGraph merged
  graph = (IsCircuit-merged held c valid).graph

  -- a gate that stays, and the gate that it was before literals were replaced
  record Stayed (old : Gate) (k : ℕ) : Type 0 where
    was : Gate
    there : slice_get c.aig.gates k ≡ Some was
    is : old ≡ replaced_gate (substitutes_of c.aig held) was
    own : get_or (substitutes_of c.aig held) (first_gate c.aig + k) 0 ≡ 2 * (first_gate c.aig + k)
    plain : IsPlain old

  stayed : (k : ℕ) (old : Gate) → slice_get merged.gates k ≡ Some old → s (first_gate merged + k) ≡ true → Stayed old k
  stayed k old e told =
      let from = from_gate (substitutes_of c.aig held) c.aig k old e in
      let place : first_gate merged + k ≡ first_gate c.aig + k = omega (arith, replaced-first_gate (substitutes_of c.aig held) c.aig) in
      let own : get_or (substitutes_of c.aig held) (first_gate c.aig + k) 0 ≡ 2 * (first_gate c.aig + k) =
      reached-own held c valid (λ j h. in_range j 0 h) s reached (first_gate c.aig + k) (ap s (sym place) ∙ told) in
      record {
        was = from.0;
        there = from.1;
        is = from.2;
        own = own;
        plain = subst (λ (x : Gate). IsPlain x) (sym from.2) (plain-own c.aig held valid.graph k from.0 from.1 own);
      }

  literal-one : (a b : ℕ) → stays merged s (variable a) ≡ true → stays merged s (variable b) ≡ true → renumbered merged s a ≡ renumbered merged s b → a ≡ b
  literal-one a b sa sb same =
      let vars : new_variable merged s (variable a) ≡ new_variable merged s (variable b) = omega (arith, same) in
      let one : variable a ≡ variable b = same-rank (stays merged s) (variable a) (variable b) sa sb vars in
      omega (arith, same, vars, one)

  new-positive : (v : ℕ) → 0 < v → 0 < new_variable merged s v
  new-positive v h = omega (arith, new-less merged s 0 v (stays-low merged s 0 (omega arith)) h)

  plain-left : (m : ℕ) (gate : Gate) → slice_get (trimmed_graph merged s).gates m ≡ Some gate → IsPlain gate
  plain-left m gate e =
      let from : GateFrom merged s m gate = gate_from merged s m gate e in
      let old : Stayed from.old from.place = stayed from.place from.old from.there from.reached in
      let reads = fan_ins-reached (merged_of held c) held s graph reached.holds from.place from.old from.there from.reached in
      let plain : IsPlain from.old = old.plain in
      let a : ℕ = variable from.old.rhs0 in
      let b : ℕ = variable from.old.rhs1 in
      let less : new_variable merged s b < new_variable merged s a = new-less merged s b a reads.1 plain.apart in
      subst (λ (x : Gate). IsPlain x) (sym from.is) (plain-of (renumbered merged s from.old.rhs0) (renumbered merged s from.old.rhs1)
      (omega (arith, renumbered-variable merged s from.old.rhs0, new-positive a (omega (arith, plain.apart))))
      (omega (arith, renumbered-variable merged s from.old.rhs1, new-positive b (omega (arith, plain.constant))))
      (λ same. omega (arith, same, less, renumbered-variable merged s from.old.rhs0, renumbered-variable merged s from.old.rhs1)))

  pairs-left : (i k : ℕ) (gate : Gate) → slice_get (trimmed_graph merged s).gates i ≡ Some gate → slice_get (trimmed_graph merged s).gates k ≡ Some gate → i ≡ k
  pairs-left i k gate e f =
      let one : GateFrom merged s i gate = gate_from merged s i gate e in
      let two : GateFrom merged s k gate = gate_from merged s k gate f in
      let first : Stayed one.old one.place = stayed one.place one.old one.there one.reached in
      let second : Stayed two.old two.place = stayed two.place two.old two.there two.reached in
      let reads_one = fan_ins-reached (merged_of held c) held s graph reached.holds one.place one.old one.there one.reached in
      let reads_two = fan_ins-reached (merged_of held c) held s graph reached.holds two.place two.old two.there two.reached in
      let at_one : IsGateAt (first_gate merged + one.place) one.old = graph.gates one.place one.old one.there in
      let at_two : IsGateAt (first_gate merged + two.place) two.old = graph.gates two.place two.old two.there in
      let old : one.old ≡ two.old = pair-one (renumbered merged s) one.old two.old at_one.ordered at_two.ordered
      (literal-one one.old.rhs0 two.old.rhs0 reads_one.0 reads_two.0) (literal-one one.old.rhs1 two.old.rhs1 reads_one.1 reads_two.1)
      (literal-one one.old.rhs0 two.old.rhs1 reads_one.0 reads_two.1) (literal-one one.old.rhs1 two.old.rhs0 reads_one.1 reads_two.0)
      (sym one.is ∙ two.is) in
      let pair : replaced_gate (substitutes_of c.aig held) first.was ≡ replaced_gate (substitutes_of c.aig held) second.was = sym first.is ∙ old ∙ second.is in
      elim (cases_lt one.place two.place) [
        | inl less ↦ absurd (pairs-own c.aig held valid.graph one.place two.place first.was second.was first.there second.there less first.own second.own pair)
        | inr more ↦ elim (cases_lt two.place one.place) [
          | inl less ↦ absurd (pairs-own c.aig held valid.graph two.place one.place second.was first.was second.there first.there less second.own first.own (sym pair))
          | inr other ↦ (
              let same : one.place ≡ two.place = omega (arith, more, other) in
              omega (arith, one.rank, two.rank, ap (λ (n : ℕ). new_variable merged s (first_gate merged + n)) same))
        ]
      ]

-- what a pass leaves is normalised, if each of its latches is its own substitute
pub settled-normalised : (held : List ℕ) (c d : Netlist) (kept still : List ℕ) → IsCircuit c → All (λ j. j < length c.aig.latches) held → IsPass held c d kept still → AreOwnLatches d.aig still → IsNormalised still d
settled-normalised held c d kept still valid in_range pass own = record {
  reached = λ r holds v past less.
      let e = pass.circuit in
      let P : Netlist → Type 0 = λ x. HoldsReads x.aig x.props (map (new_position m.aig s) held) r in
      let Q : List ℕ → Type 0 = λ js. HoldsReads d.aig d.props js r in
      let reads : HoldsReads (trimmed_graph m.aig s) (trimmed_of m s).props (map (new_position m.aig s) held) r = subst P pass.circuit (subst Q pass.positions holds) in
      let least : (w : ℕ) → s w ≡ true → before m held s graph_m pass.are_reached.holds r reads w ≡ true =
      pass.are_reached.least (before m held s graph_m pass.are_reached.holds r reads) (holds-before m held s graph_m pass.are_reached.holds r reads) in
      all-read m held s graph_m pass.are_reached.holds r reads least v
      (omega (arith, past, ap (λ (x : Netlist). first_latch x.aig) pass.circuit)) (omega (arith, less, ap (λ (x : Netlist). variables_end x.aig) pass.circuit));
  moving = latches-moving d.aig still own;
  single = latches-single d.aig still own;
  plain = λ k gate e. plain-left held c valid in_range s pass.are_reached k gate (ap (λ (x : Netlist). slice_get x.aig.gates k) (sym pass.circuit) ∙ e);
  pairs = λ i k gate e f. pairs-left held c valid in_range s pass.are_reached i k gate (ap (λ (x : Netlist). slice_get x.aig.gates i) (sym pass.circuit) ∙ e)
      (ap (λ (x : Netlist). slice_get x.aig.gates k) (sym pass.circuit) ∙ f);
}
  where
    m : Netlist
    m = merged_of held c

    s : ℕ → Bool
    s = pass.reached

    graph_m : IsGraph m.aig
    graph_m = (IsCircuit-merged held c valid).graph
