use Rattle.std.proofs.Common.{ℕ, List, ◌≡◌, ◌∙◌, ap, subst, sym}
use Rattle.aig_graph.specs.Graph.{Graph}
use Rattle.cleaned_circuits.specs.Merged.{replaced_circuit}
use Rattle.merged_circuits.specs.Inductive.{IsInductive}
use Rattle.merged_circuits.specs.Readings.{IsReading, own_reading, substitutes_by}
use Rattle.merged_circuits.proofs.OwnLaws.{own-inductive, own-reading}
use Rattle.latch_merging.proofs.merging.unmerged.Goals as goal

pub circuit_by-requires : goal.circuit_by-requires
circuit_by-requires c =
    let g : Graph = c.args.circuit.now.aig in
    let own : c.in_ok-reads.reads.items ≡ own_reading g = c.in_ok-reads.ensures ∙ ap own_reading c.aig.ensures.value in
    subst (λ (reads : List ℕ). IsReading g c.args.keep.now reads) (sym (c.as_slice.ensures.value ∙ own)) (own-reading g c.args.keep.now)

pub merged_with-requires : goal.merged_with-requires
merged_with-requires c =
    let g : Graph = c.args.circuit.now.aig in
    let own : c.in_ok-reads.reads.items ≡ own_reading g = c.in_ok-reads.ensures ∙ ap own_reading c.aig.ensures.value in
    record {
      inductive = subst (λ (reads : List ℕ). IsInductive g c.args.keep.now reads) (sym own) (own-inductive g c.args.keep.now);
      circuit = c.in_ok-merged.ensures ∙ ap (λ (reads : List ℕ). replaced_circuit (substitutes_by g reads) c.args.circuit.now) c.as_slice.ensures.value;
    }
