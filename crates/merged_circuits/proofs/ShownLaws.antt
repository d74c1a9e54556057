-- What is shown in the merged graph holds in each state in which latches hold what they read as.
use Rattle.std.proofs.Common.{ℕ, ◌+◌, ◌-◌, ◌*◌, ◌<◌, ◌≡◌, inl, inr, List, Bool, ◌&&◌, length, Some, slice_get, get_or, arith, ap, sym, ◌∙◌}
use Rattle.std.proofs.lemmas.Bool.{cases_lt}
use Rattle.std.proofs.lemmas.Option.{none-some, slice_get_within}
use Rattle.aig_graph.specs.declared.graph.Gate.{Gate}
use Rattle.aig_graph.specs.declared.graph.Latch.{Latch}
use Rattle.aig_graph.specs.Graph.{Graph, IsGraph, IsGateAt, variable, variables_end, first_latch, first_gate}
use Rattle.aig_graph.specs.Value.{signed}
use Rattle.aig_graph.proofs.KindLaws.{element}
use Rattle.aig_graph.proofs.SignLaws.{value_signed_as, value-gate_of}
use Rattle.cleaned_circuits.specs.Latches.{constant_of}
use Rattle.cleaned_circuits.specs.Merged.{Merging, merge_gate, merge_gates, merging_from, replaced, replaced_gate, substitutes_after}
use Rattle.cleaned_circuits.proofs.SubstituteLaws.{GateOf, IsRight, gates-of, length-substitutes_after, merge-all, replaced-value, right-merge_gate}
use Rattle.cleaned_circuits.proofs.MergedLaws.{from_gate, replaced-first_gate}
use Rattle.merged_circuits.specs.Readings.{IsReading, leaves, signature, substitutes_by}
use Rattle.aig_graph.specs.Gates.{Respects, gates_of}
use Rattle.merged_circuits.specs.Inductive.{Agrees, told}
use Rattle.merged_circuits.specs.Shown.{merged_graph}
use Rattle.merged_circuits.specs.Laws.{ShownInductive}
use Rattle.merged_circuits.proofs.ReadingLaws.{are-leaves, leaf-low, leaf-latch}

module _ (g : Graph) (held reads : List ℕ) (valid : IsGraph g) (reading : IsReading g held reads) (values : ℕ → Bool) (respects : Respects (gates_of g) values) (agree : Agrees g reads values) where
  leaf-value : (v : ℕ) → v < first_gate g → values (get_or (leaves g reads) v 0) ≡ values (2 * v)
  leaf-value v h = elim (cases_lt v (first_latch g)) [
    | inl low ↦ ap values (leaf-low g held reads v low)
    | inr past ↦ (
        let there = element g.latches (v - first_latch g) (omega arith) in
        let place : first_latch g + (v - first_latch g) ≡ v = omega arith in
        ap (λ (w : ℕ). values (get_or (leaves g reads) w 0)) (sym place) ∙ ap values (leaf-latch g held reads (v - first_latch g))
        ∙ agree (v - first_latch g) there.0 there.1 ∙ ap (λ (w : ℕ). values (2 * w)) place)
  ]

  right-after : IsRight values respects.negation respects.constant (merge_gates g.gates (merging_from (leaves g reads)))
  right-after =
      merge-all (λ m. IsRight values respects.negation respects.constant m) (λ v gate. GateOf g v gate) step g.gates (merging_from (leaves g reads))
      (gates-of g (leaves g reads) (are-leaves g held reads reading) valid) (record {
        each = λ v h. leaf-value v (omega (arith, (are-leaves g held reads reading).long));
        kept = λ gate w e. absurd (none-some w e);
      })
    where
      step : (m : Merging) (gate : Gate) → IsRight values respects.negation respects.constant m → GateOf g (length m.substitutes) gate
          → IsRight values respects.negation respects.constant (merge_gate m gate)
      step m gate so_far place =
          let at : IsGateAt (length m.substitutes) gate = place.at in
          let here : values (2 * length m.substitutes) ≡ (values gate.rhs0 && values gate.rhs1) =
          ap (λ (n : ℕ). values (2 * n)) place.variable_is ∙ respects.gates place.place gate place.there in
          right-merge_gate values respects.negation respects.constant m so_far gate (omega arith) (omega arith) here

  -- what stands for a literal has its value
  pub substitutes-value : (lit : ℕ) → variable lit < variables_end g → values (replaced (substitutes_by g reads) lit) ≡ values lit
  unfolding substitutes_after
  substitutes-value lit h =
      replaced-value values respects.negation respects.constant (substitutes_by g reads) lit
      (right-after.each (variable lit) (omega (arith, length-substitutes_after g (leaves g reads) (are-leaves g held reads reading))))

  -- so the values respect the merged graph's gates
  merged-respects : Respects (gates_of (merged_graph g reads)) values
  merged-respects = record {
    constant = respects.constant;
    negation = respects.negation;
    gates = λ j gate there. at j gate (from_gate (substitutes_by g reads) g j gate there);
  }
    where
      at : (j : ℕ) (gate : Gate) → (old : Gate) × (slice_get g.gates j ≡ Some old) × (gate ≡ replaced_gate (substitutes_by g reads) old)
          → values (2 * (first_gate (merged_graph g reads) + j)) ≡ (values gate.rhs0 && values gate.rhs1)
      at j gate (old, there, same) =
          let is : IsGateAt (first_gate g + j) old = valid.gates j old there in
          let inside : first_gate g + j < variables_end g = omega (arith, slice_get_within g.gates j old there) in
          ap (λ (n : ℕ). values (2 * (n + j))) (replaced-first_gate (substitutes_by g reads) g)
          ∙ respects.gates j old there
          ∙ ap (λ (b : Bool). b && values old.rhs1) (sym (substitutes-value old.rhs0 (omega (arith, is.below, inside))))
          ∙ ap (λ (b : Bool). values (replaced (substitutes_by g reads) old.rhs0) && b) (sym (substitutes-value old.rhs1 (omega (arith, is.below, is.ordered, inside))))
          ∙ sym (value-gate_of values (replaced (substitutes_by g reads) old.rhs0) (replaced (substitutes_by g reads) old.rhs1))
          ∙ ap (λ (x : Gate). values x.rhs0 && values x.rhs1) (sym same)

  -- and a latch's signature has the value of what it is told
  told-value : (j : ℕ) (latch : Latch) → slice_get g.latches j ≡ Some latch → values (signature (substitutes_by g reads) latch) ≡ values (told latch)
  told-value j latch there =
      value_signed_as values respects.negation (constant_of latch.reset) (replaced (substitutes_by g reads) latch.next)
      ∙ ap (signed (constant_of latch.reset)) (substitutes-value latch.next (valid.latches j latch there))
      ∙ sym (value_signed_as values respects.negation (constant_of latch.reset) latch.next)

-- steps preserve a reading that is shown in the merged graph
pub shown-inductive : (g : Graph) (held reads : List ℕ) → ShownInductive g held reads
shown-inductive g held reads valid shown = record {
  reading = shown.reading;
  constants = λ j latch there constant values respects agree.
      sym (told-value g held reads valid shown.reading values respects agree j latch there)
      ∙ shown.constants j latch there constant values (merged-respects g held reads valid shown.reading values respects agree);
  alike = λ j i latch first there first_there is values respects agree.
      sym (told-value g held reads valid shown.reading values respects agree j latch there)
      ∙ shown.alike j i latch first there first_there is values (merged-respects g held reads valid shown.reading values respects agree)
      ∙ told-value g held reads valid shown.reading values respects agree i first first_there;
}
