-- A step of a circuit is a step of the circuit that its latches are merged to. Each latch has to
-- hold the value of its reading.
use Rattle.std.proofs.Common.{zero-add, ℕ, ◌+◌, ◌*◌, ◌<◌, ◌≤◌, ◌≡◌, suc, zero, length, Bool, ◌&&◌, Option, Some, None, slice_get, List, refl, arith, ap, sym, ◌∙◌, subst}
use Rattle.std.specs.Bool.{IsTrue}
use Rattle.std.specs.List.{range_with_len}
use Rattle.std.proofs.lemmas.List.FromFn.{get_or-range_with_len}
use Rattle.aig_graph.proofs.ListLaws.{slice_get-map_none}
use Rattle.aig_graph.proofs.KindLaws.{kind_of, is_constant, is_input, is_latch, is_gate}
use Rattle.aig_graph.proofs.PropsLaws.{literals_within, of_literals}
use Rattle.aig_graph.proofs.SignLaws.{value_signed, value-gate_of}
use Rattle.aig_graph.specs.Circuits.{IsNetlist, Netlist}
use Rattle.aig_graph.specs.Graph.{Graph, IsGraph, IsGateAt, IsLiteralOf, variable, first_latch, first_gate, variables_end, free_before, free_latches}
use Rattle.aig_graph.specs.Laws.{all_free}
use Rattle.aig_graph.specs.Streams.{chosen}
use Rattle.aig_graph.specs.Value.{Choice, next_value, opening, opening_at, signed, value_within}
use Rattle.aig_graph.specs.declared.graph.Latch.{Latch}
use Rattle.cleaned_circuits.specs.Merged.{replaced, replaced_gate, replaced_latch, replaced_graph, replaced_circuit}
use Rattle.cleaned_circuits.proofs.SubstituteLaws.{after-within}
use Rattle.cleaned_circuits.proofs.MergedLaws.{IsGraph-replaced, SubstitutesWithin, length-replaced_latches, replaced-inputs, replaced-first_latch, replaced-first_gate, replaced-latch, replaced-gate, replaced-free_before}
use Rattle.merged_circuits.specs.Readings.{leaves, substitutes_by}
use Rattle.merged_circuits.specs.Inductive.{IsInductive}
use Rattle.merged_circuits.proofs.ReadingLaws.{are-leaves}
use Rattle.state_maps.specs.States.{Digits, IsStateMap, State, after_step, opening_state}
use Rattle.state_maps.specs.RetimedStates.{HasStateMap}
use Rattle.state_maps.proofs.FrameMapLaws.{restated}
use Rattle.state_maps.proofs.MapLaws.{mapped-reads, opening-same}
use Rattle.state_maps.proofs.WithinLaws.{WithinLaws, within_laws}
use Rattle.state_maps.specs.MergedStates.{ReadsHold, reads_right}
use Rattle.state_maps.specs.MergingLaws.{HasMergingMap, MergingMaps}
use Rattle.state_maps.proofs.ReadsHoldLaws.{holds-test, reads-first, reads-keep, substitutes-value, test-holds}
use Rattle.aig_graph.proofs.StreamLaws.{funext}

module _ (g : Graph) (held reads : List ℕ) (valid : IsGraph g) (kept : IsInductive g held reads) where
  within-each : SubstitutesWithin g (substitutes_by g reads)
  within-each = after-within g (leaves g reads) (are-leaves g held reads kept.reading) valid

  whole : IsGraph (replaced_graph (substitutes_by g reads) g)
  whole = IsGraph-replaced g (substitutes_by g reads) valid within-each

  -- latches begin as they did
  merged-first : (f : Choice) → opening_state (replaced_graph (substitutes_by g reads) g) f ≡ opening_state g f
  unfolding replaced_graph
  merged-first f = funext _ _ at
    where
      at : (j : ℕ) → opening_state (replaced_graph (substitutes_by g reads) g) f j ≡ opening_state g f j
      at j = go (slice_get g.latches j) refl
        where
          go : (o : Option Latch) → slice_get g.latches j ≡ o → opening_state (replaced_graph (substitutes_by g reads) g) f j ≡ opening_state g f j
          go None e =
              ap (opening_at (replaced_graph (substitutes_by g reads) g) f j) (slice_get-map_none (replaced_latch (substitutes_by g reads)) g.latches j e)
              ∙ sym (ap (opening_at g f j) e)
          go (Some latch) e =
              ap (opening_at (replaced_graph (substitutes_by g reads) g) f j) (replaced-latch (substitutes_by g reads) g j latch e)
              ∙ ap (λ (n : ℕ). opening latch.reset (f n)) (replaced-free_before (substitutes_by g reads) g j)
              ∙ sym (ap (opening_at g f j) e)

  -- the merged circuit, in one state
  module _ (x : Digits) (s : State) (holds : ReadsHold g reads s) where
    abbrev vals : ℕ → Bool
    vals lit = value_within g x s lit

    abbrev after : ℕ → Bool
    after lit = value_within (replaced_graph (substitutes_by g reads) g) x s lit

    laws : WithinLaws g x s vals
    laws = within_laws g valid x s

    after-laws : WithinLaws (replaced_graph (substitutes_by g reads) g) x s after
    after-laws = within_laws (replaced_graph (substitutes_by g reads) g) whole x s

    substitute-value : (lit : ℕ) → variable lit < variables_end g → vals (replaced (substitutes_by g reads) lit) ≡ vals lit
    substitute-value lit h = substitutes-value g held reads valid kept x s holds lit h

    signed-same : (lit : ℕ) → after (2 * variable lit) ≡ vals (2 * variable lit) → after lit ≡ vals lit
    signed-same lit same = value_signed after after-laws.negation lit ∙ ap (signed lit) same ∙ sym (value_signed vals laws.negation lit)

    variable-value : (n v : ℕ) → v < n → v < variables_end g → after (2 * v) ≡ vals (2 * v)
    variable-value zero v h within = absurd (omega arith)
    variable-value (suc n) v h within = elim (kind_of g v within) [
      | is_constant e ↦ (let zero_is : 2 * v ≡ 0 = omega arith in ap after zero_is ∙ after-laws.constant ∙ sym laws.constant ∙ ap vals (sym zero_is))
      | is_input i less e ↦ (
          let place : 2 * v ≡ 2 * (1 + i) = omega arith in
          ap after place ∙ after-laws.input i (omega (arith, replaced-inputs (substitutes_by g reads) g)) ∙ sym (laws.input i less) ∙ ap vals (sym place))
      | is_latch j latch there e ↦ (
          let place : 2 * v ≡ 2 * (first_latch g + j) = omega arith in
          let new_place : 2 * v ≡ 2 * (first_latch (replaced_graph (substitutes_by g reads) g) + j) = omega (arith, replaced-first_latch (substitutes_by g reads) g) in
          ap after new_place ∙ after-laws.latch j (replaced_latch (substitutes_by g reads) latch) (replaced-latch (substitutes_by g reads) g j latch there) ∙ sym (laws.latch j latch there) ∙ ap vals (sym place))
      | is_gate k gate there e ↦ (
          let at : IsGateAt (first_gate g + k) gate = valid.gates k gate there in
          let place : 2 * v ≡ 2 * (first_gate g + k) = omega arith in
          let new_place : 2 * v ≡ 2 * (first_gate (replaced_graph (substitutes_by g reads) g) + k) = omega (arith, replaced-first_gate (substitutes_by g reads) g) in
          let low0 : variable (replaced (substitutes_by g reads) gate.rhs0) ≤ variable gate.rhs0 = within-each gate.rhs0 (omega arith) in
          let low1 : variable (replaced (substitutes_by g reads) gate.rhs1) ≤ variable gate.rhs1 = within-each gate.rhs1 (omega arith) in
          let one : after (replaced (substitutes_by g reads) gate.rhs0) ≡ vals gate.rhs0 =
          signed-same (replaced (substitutes_by g reads) gate.rhs0) (variable-value n (variable (replaced (substitutes_by g reads) gate.rhs0)) (omega arith) (omega arith)) ∙ substitute-value gate.rhs0 (omega arith) in
          let two : after (replaced (substitutes_by g reads) gate.rhs1) ≡ vals gate.rhs1 =
          signed-same (replaced (substitutes_by g reads) gate.rhs1) (variable-value n (variable (replaced (substitutes_by g reads) gate.rhs1)) (omega arith) (omega arith)) ∙ substitute-value gate.rhs1 (omega arith) in
          ap after new_place ∙ after-laws.gate k (replaced_gate (substitutes_by g reads) gate) (replaced-gate (substitutes_by g reads) g k gate there)
          ∙ value-gate_of after (replaced (substitutes_by g reads) gate.rhs0) (replaced (substitutes_by g reads) gate.rhs1)
          ∙ ap (λ (b : Bool). b && after (replaced (substitutes_by g reads) gate.rhs1)) one ∙ ap (λ (b : Bool). vals gate.rhs0 && b) two
          ∙ sym (laws.gate k gate there) ∙ ap vals (sym place))
    ]

    merged-value : (lit : ℕ) → variable lit < variables_end g → after (replaced (substitutes_by g reads) lit) ≡ vals lit
    merged-value lit within =
        let low : variable (replaced (substitutes_by g reads) lit) ≤ variable lit = within-each lit within in
        signed-same (replaced (substitutes_by g reads) lit) (variable-value (suc (variable (replaced (substitutes_by g reads) lit))) (variable (replaced (substitutes_by g reads) lit)) (omega arith) (omega arith))
        ∙ substitute-value lit within

    -- so it is one step
    merged-step : after_step (replaced_graph (substitutes_by g reads) g) x s ≡ after_step g x s
    unfolding replaced_graph
    merged-step = funext _ _ at
      where
        at : (j : ℕ) → after_step (replaced_graph (substitutes_by g reads) g) x s j ≡ after_step g x s j
        at j = go (slice_get g.latches j) refl
          where
            go : (o : Option Latch) → slice_get g.latches j ≡ o → after_step (replaced_graph (substitutes_by g reads) g) x s j ≡ after_step g x s j
            go None e = ap (next_value after) (slice_get-map_none (replaced_latch (substitutes_by g reads)) g.latches j e) ∙ sym (ap (next_value vals) e)
            go (Some latch) e =
                ap (next_value after) (replaced-latch (substitutes_by g reads) g j latch e) ∙ merged-value latch.next (valid.latches j latch e) ∙ sym (ap (next_value vals) e)

-- every choice for the free latches is its own
chosen-all : (n : ℕ) (f : Choice) (j : ℕ) → j < n → f j ≡ chosen (range_with_len 0 n) f j
chosen-all n f j h = ap f (sym (get_or-range_with_len 0 n j 0 h ∙ zero-add j))

-- merging maps each state to itself
module _ (held reads : List ℕ) (c : Netlist) (valid : IsGraph c.aig) (netlist : IsNetlist c) (kept : IsInductive c.aig held reads) where
  replaced-maps : IsStateMap c (replaced_circuit (substitutes_by c.aig reads) c) (all_free c.aig) (ReadsHold c.aig reads) (λ s. s)
  replaced-maps =
      let d : Netlist = replaced_circuit (substitutes_by c.aig reads) c in
      let free : free_latches d.aig ≡ free_latches c.aig =
      replaced-free_before (substitutes_by c.aig reads) c.aig (length (replaced_graph (substitutes_by c.aig reads) c.aig).latches) ∙ ap (free_before c.aig) (length-replaced_latches (substitutes_by c.aig reads) c.aig) in
      record {
        holds_first = λ f. reads-first c.aig held reads valid kept f;
        first = λ f.
            sym (merged-first c.aig held reads valid kept f)
            ∙ opening-same d.aig (whole c.aig held reads valid kept) f (chosen (all_free c.aig) f) (λ j h. chosen-all (free_latches c.aig) f j (subst (λ (n : ℕ). j < n) free h));
        keeps = λ x s holds. reads-keep c.aig held reads valid kept x s holds;
        steps = λ x s holds. sym (merged-step c.aig held reads valid kept x s holds);
        reads = λ x s holds. mapped-reads (replaced (substitutes_by c.aig reads)) (λ lit. IsLiteralOf c.aig lit) c d x s s refl
            (of_literals (λ lit. IsLiteralOf c.aig lit) c.props (literals_within c.aig c.props netlist.props)) (merged-value c.aig held reads valid kept x s holds);
      }

  replaced-has : HasStateMap c (replaced_circuit (substitutes_by c.aig reads) c) (all_free c.aig)
  replaced-has = (
    λ s. reads_right c.aig reads s 0 c.aig.latches,
    λ s. s,
    restated c (replaced_circuit (substitutes_by c.aig reads) c) (all_free c.aig) (ReadsHold c.aig reads) (λ s. IsTrue (reads_right c.aig reads s 0 c.aig.latches)) (λ s. s)
        (λ s h. holds-test c.aig held reads valid kept s h) (λ s h. test-holds c.aig held reads valid kept s h) replaced-maps,
  )

-- merging maps each state in which latches hold what they read as to itself
pub merging-maps : (held reads : List ℕ) (c d : Netlist) → MergingMaps held reads c d
merging-maps held reads c d valid netlist merged =
    let P : Netlist → Type 0 = λ e. IsStateMap c e (all_free c.aig) (ReadsHold c.aig reads) (λ s. s) in
    subst P (sym merged.circuit) (replaced-maps held reads c valid netlist merged.inductive)

-- a merging has a state map that rests on a test
pub has-merging_map : (held reads : List ℕ) (c d : Netlist) → HasMergingMap held reads c d
has-merging_map held reads c d valid netlist merged =
    let P : Netlist → Type 0 = λ e. HasStateMap c e (all_free c.aig) in
    subst P (sym merged.circuit) (replaced-has held reads c valid netlist merged.inductive)
