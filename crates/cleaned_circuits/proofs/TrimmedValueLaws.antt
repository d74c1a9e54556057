-- A trimmed circuit has the values of the circuit at what it reached.
use Rattle.std.proofs.Common.{ℕ, ◌+◌, ◌-◌, ◌*◌, ◌<◌, ◌≤◌, ◌≡◌, suc, zero, List, length, map, Bool, true, ◌&&◌, Some, slice_get, refl, arith, ap, sym, ◌∙◌, subst, add-one}
use Rattle.std.proofs.lemmas.Option.{slice_get_within}
use Rattle.aig_graph.specs.declared.graph.Latch.{Latch}
use Rattle.aig_graph.specs.Graph.{IsGraph, IsGateAt, IsLiteralOf, variable, first_latch, first_gate, variables_end, is_free, free_before}
use Rattle.aig_graph.specs.Circuits.{Netlist, IsNetlist}
use Rattle.aig_graph.specs.Value.{Inputs, Choice, value, signed}
use Rattle.aig_graph.specs.Streams.{property_literals, chosen, SameStreams}
use Rattle.aig_graph.specs.Laws.{ValueLaws}
use Rattle.aig_graph.proofs.ValueLaws.{value_laws}
use Rattle.aig_graph.proofs.SignLaws.{value_signed, value_signed_as, value-gate_of}
use Rattle.aig_graph.proofs.KindLaws.{kind_of, is_constant, is_input, is_latch, is_gate}
use Rattle.cleaned_circuits.specs.Reached.{stays, HoldsReads}
use Rattle.cleaned_circuits.specs.Trimmed.{new_variable, renumbered, renumbered_latch, renumbered_gate, trimmed_graph, trimmed_of, kept_free}
use Rattle.aig_graph.proofs.ListLaws.{map-map, map-same}
use Rattle.aig_graph.proofs.PropsLaws.{mapped-literals, mapped-shape, literals_within}
use Rattle.aig_graph.proofs.StreamLaws.{opening-same}
use Rattle.cleaned_circuits.proofs.TrimmedLaws.{stays-past, new-low, new-from, new-rises, trimmed-inputs, trimmed-first_latch, trimmed-first_gate, latch_in, gate_in, next-reached, fan_ins-reached, IsGraph-trimmed}
use Rattle.cleaned_circuits.proofs.KeptFreeLaws.{free-rank, kept_free-at, are_kept}

module _ (c : Netlist) (held : List ℕ) (s : ℕ → Bool) (valid : IsGraph c.aig) (holds : HoldsReads c.aig c.props held s) (x : Inputs) (f : Choice) where
  abbrev before : ℕ → ℕ → Bool
  before t lit = value c.aig x f t lit

  abbrev after : ℕ → ℕ → Bool
  after t lit = value (trimmed_graph c.aig s) x (chosen (kept_free c.aig s) f) t lit

  before-laws : ValueLaws c.aig x f
  before-laws = value_laws c.aig valid x f

  after-laws : ValueLaws (trimmed_graph c.aig s) x (chosen (kept_free c.aig s) f)
  after-laws = value_laws (trimmed_graph c.aig s) (IsGraph-trimmed c held s valid holds) x (chosen (kept_free c.aig s) f)

  -- each latch that is reached has its value
  abbrev Kept : ℕ → Type 0
  Kept t = (j : ℕ) (latch : Latch) → slice_get c.aig.latches j ≡ Some latch → s (first_latch c.aig + j) ≡ true
      → after t (2 * new_variable c.aig s (first_latch c.aig + j)) ≡ before t (2 * (first_latch c.aig + j))

  literal-same : (t lit : ℕ) → after t (2 * new_variable c.aig s (variable lit)) ≡ before t (2 * variable lit) → after t (renumbered c.aig s lit) ≡ before t lit
  literal-same t lit same =
      value_signed_as (after t) (after-laws.negation t) lit (2 * new_variable c.aig s (variable lit))
      ∙ ap (signed lit) same ∙ sym (value_signed (before t) (before-laws.negation t) lit)

  variable-value : (t : ℕ) → Kept t → (n v : ℕ) → v < n → v < variables_end c.aig → stays c.aig s v ≡ true → after t (2 * new_variable c.aig s v) ≡ before t (2 * v)
  variable-value t kept zero v h within reached = absurd (omega arith)
  variable-value t kept (suc n) v h within reached = elim (kind_of c.aig v within) [
    | is_constant e ↦ (
        let new : 2 * new_variable c.aig s v ≡ 0 = omega (arith, new-low c.aig s v (omega arith)) in
        let old : 2 * v ≡ 0 = omega arith in
        ap (after t) new ∙ after-laws.constant t ∙ sym (before-laws.constant t) ∙ ap (before t) (sym old))
    | is_input i less e ↦ (
        let new : 2 * new_variable c.aig s v ≡ 2 * (1 + i) = omega (arith, new-low c.aig s v (omega arith)) in
        let old : 2 * v ≡ 2 * (1 + i) = omega arith in
        ap (after t) new ∙ after-laws.input t i (omega (arith, trimmed-inputs c.aig s)) ∙ sym (before-laws.input t i less) ∙ ap (before t) (sym old))
    | is_latch j latch there e ↦ (
        let new : 2 * new_variable c.aig s v ≡ 2 * new_variable c.aig s (first_latch c.aig + j) = ap (λ (w : ℕ). 2 * new_variable c.aig s w) e in
        ap (after t) new ∙ kept j latch there (ap s (sym e) ∙ sym (stays-past c.aig s v (omega arith)) ∙ reached) ∙ ap (λ (w : ℕ). before t (2 * w)) (sym e))
    | is_gate k gate there e ↦ (
        let at : IsGateAt (first_gate c.aig + k) gate = valid.gates k gate there in
        let here : s (first_gate c.aig + k) ≡ true = ap s (sym e) ∙ sym (stays-past c.aig s v (omega arith)) ∙ reached in
        let ins = fan_ins-reached c held s valid holds k gate there here in
        let one : after t (renumbered c.aig s gate.rhs0) ≡ before t gate.rhs0 =
        literal-same t gate.rhs0 (variable-value t kept n (variable gate.rhs0) (omega arith) (omega arith) ins.0) in
        let two : after t (renumbered c.aig s gate.rhs1) ≡ before t gate.rhs1 =
        literal-same t gate.rhs1 (variable-value t kept n (variable gate.rhs1) (omega arith) (omega arith) ins.1) in
        let m : ℕ = new_variable c.aig s (first_gate c.aig + k) - first_gate (trimmed_graph c.aig s) in
        let low : new_variable c.aig s (first_gate c.aig) ≤ new_variable c.aig s (first_gate c.aig + k) = new-rises c.aig s (first_gate c.aig) (first_gate c.aig + k) (omega arith) in
        let rank : first_gate (trimmed_graph c.aig s) + m ≡ new_variable c.aig s (first_gate c.aig + k) = omega (arith, trimmed-first_gate c.aig s) in
        let new : 2 * new_variable c.aig s v ≡ 2 * (first_gate (trimmed_graph c.aig s) + m) = ap (λ (w : ℕ). 2 * new_variable c.aig s w) e ∙ ap (λ (w : ℕ). 2 * w) (sym rank) in
        ap (after t) new
        ∙ after-laws.gate t m (renumbered_gate c.aig s gate) (gate_in c.aig s k m gate there here rank)
        ∙ value-gate_of (after t) (renumbered c.aig s gate.rhs0) (renumbered c.aig s gate.rhs1)
        ∙ ap (λ (b : Bool). b && after t (renumbered c.aig s gate.rhs1)) one ∙ ap (λ (b : Bool). before t gate.rhs0 && b) two
        ∙ sym (before-laws.gate t k gate there) ∙ ap (λ (w : ℕ). before t (2 * w)) (sym e))
  ]

  literal-value : (t : ℕ) → Kept t → (lit : ℕ) → variable lit < variables_end c.aig → stays c.aig s (variable lit) ≡ true → after t (renumbered c.aig s lit) ≡ before t lit
  literal-value t kept lit within reached = literal-same t lit (variable-value t kept (suc (variable lit)) (variable lit) (omega arith) within reached)

  -- the new place of a latch that is reached
  abbrev place_of : ℕ → ℕ
  place_of j = new_variable c.aig s (first_latch c.aig + j) - first_latch c.aig

  place-rank : (j : ℕ) → first_latch c.aig + place_of j ≡ new_variable c.aig s (first_latch c.aig + j)
  place-rank j = omega (arith, new-from c.aig s (first_latch c.aig + j) (omega arith))

  place-new : (j : ℕ) → 2 * new_variable c.aig s (first_latch c.aig + j) ≡ 2 * (first_latch (trimmed_graph c.aig s) + place_of j)
  place-new j = omega (arith, place-rank j, trimmed-first_latch c.aig s)

  -- the choice for a free latch that is reached
  same_choice : (j : ℕ) (latch : Latch) → slice_get c.aig.latches j ≡ Some latch → s (first_latch c.aig + j) ≡ true → is_free latch ≡ true
      → chosen (kept_free c.aig s) f (free_before (trimmed_graph c.aig s) (place_of j)) ≡ f (free_before c.aig j)
  same_choice j latch there reached free =
      let within : j < length c.aig.latches = slice_get_within c.aig.latches j latch there in
      ap (chosen (kept_free c.aig s) f) (free-rank c.aig s j (place_of j) (omega arith) (place-rank j)) ∙ ap f (kept_free-at c.aig s j latch there free reached)

  kept-start : Kept 0
  kept-start j latch there reached =
      ap (after 0) (place-new j)
      ∙ after-laws.latch_at_start (place_of j) (renumbered_latch c.aig s latch) (latch_in c.aig s j (place_of j) latch there reached (place-rank j))
      ∙ opening-same latch.reset latch.next (chosen (kept_free c.aig s) f (free_before (trimmed_graph c.aig s) (place_of j))) (f (free_before c.aig j)) (same_choice j latch there reached)
      ∙ sym (before-laws.latch_at_start j latch there)

  kept-later : (t : ℕ) → Kept t → Kept (t + 1)
  kept-later t kept j latch there reached =
      ap (after (t + 1)) (place-new j)
      ∙ after-laws.latch_later t (place_of j) (renumbered_latch c.aig s latch) (latch_in c.aig s j (place_of j) latch there reached (place-rank j))
      ∙ literal-value t kept latch.next (valid.latches j latch there) (next-reached c held s valid holds j latch there reached)
      ∙ sym (before-laws.latch_later t j latch there)

  kept-always : (t : ℕ) → Kept t
  kept-always zero = kept-start
  kept-always (suc t) = let P : ℕ → Type 0 = λ n. Kept n in subst P (add-one t) (kept-later t (kept-always t))

  -- the properties of a trimmed circuit have the values of the circuit's, step by step
  pub trimmed-properties : IsNetlist c → (t : ℕ) → map (value (trimmed_graph c.aig s) x (chosen (kept_free c.aig s) f) t) (property_literals (trimmed_of c s).props) ≡ map (value c.aig x f t) (property_literals c.props)
  trimmed-properties netlist t =
      ap (map (after t)) (mapped-literals (renumbered c.aig s) c.props)
      ∙ map-map (after t) (renumbered c.aig s) (property_literals c.props)
      ∙ map-same (λ lit. IsLiteralOf c.aig lit × (stays c.aig s (variable lit) ≡ true)) (λ lit. after t (renumbered c.aig s lit)) (before t)
      (λ lit both. literal-value t (kept-always t) lit both.0 both.1) (property_literals c.props)
      (λ k d h. (literals_within c.aig c.props netlist.props k d h, holds.properties k d h))

-- a trimmed circuit has the streams of the circuit
pub trimmed-streams : (c : Netlist) (held : List ℕ) (s : ℕ → Bool) → IsGraph c.aig → IsNetlist c → HoldsReads c.aig c.props held s → SameStreams c (trimmed_of c s) (kept_free c.aig s)
trimmed-streams c held s valid netlist holds = record {
  shape = mapped-shape (renumbered c.aig s) c (trimmed_of c s) (trimmed-inputs c.aig s) refl;
  places = are_kept c s;
  values = λ x f t. trimmed-properties c held s valid holds x f netlist t;
}
