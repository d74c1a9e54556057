use Rattle.std.proofs.Common.{◌∙◌, ◌≡◌, ap, ap₂, sym, replicate, false, ℕ, List, Bool, length}
use Rattle.std.proofs.lemmas.List.{length-replicate}
use Rattle.aig_graph.specs.Graph.{Graph, first_latch}
use Rattle.aig_graph.specs.declared.properties.Props.{Props}
use Rattle.aig_graph.specs.Closed.{is_held}
use Rattle.aig_graph.specs.Border.{is_read_outside}
use Rattle.aig_graph.specs.Marking.{has, mark_at}
use Rattle.aig_graph.specs.Tables.{table}
use Rattle.aig_graph.proofs.TableLaws.{length-table}
use Rattle.aig_graph.proofs.MarkingLaws.{Marks-then, Marks-same, AreMarks-from_none, AreMarks-table}
use Rattle.aig_graph.proofs.BorderLaws.{border_size-is}
use Rattle.aig_graph.proofs.border.count.Goals as goal

pub returns : goal.returns
returns c =
    let g : Graph = c.aig-aig.result.now in
    let props : Props = c.props.result.now in
    let s : List ℕ = c.args.set.now in
    let held : List ℕ = c.args.keep.now in
    let n : ℕ = c.latches_and_gates-entries.result in
    let inside : List Bool = c.as_slice-2.result.now in
    let filled : inside ≡ table (first_latch g) n (has s) =
    c.as_slice-2.ensures.value ∙ c.in_ok-inside.ensures ∙ ap₂ (λ (f : ℕ) (vars : List ℕ). table f n (has vars)) c.first_latch.ensures.value c.vars.ensures.value in
    let fresh : c.as_mut_slice-marks.result.now ≡ replicate n false = c.as_mut_slice-marks.ensures.value ∙ c.in_ok-marked.ensures.items_if_clones_equal (λ y h. h) in
    let marked = Marks-then (first_latch g) _ _ _ (is_read_outside g props (mark_at (first_latch g) inside)) (is_held g held)
    (Marks-same _ _ _ _ _ c.mark_read.ensures (λ v. ap (λ (xs : List Bool). is_read_outside g props (mark_at (first_latch g) xs) v) (c.as_slice.ensures.value ∙ sym c.as_slice-2.ensures.value))) c.mark_held.ensures in
    c.count_marked.ensures
    ∙ border_size-is c.args.circuit.now held s g props inside _ c.aig-aig.ensures.value c.props.ensures.value
    (ap length filled ∙ length-table _ n _ ∙ c.latches_and_gates-entries.ensures.value)
    (marked.as_long ∙ ap length fresh ∙ length-replicate n false ∙ c.latches_and_gates-entries.ensures.value)
    (AreMarks-table (first_latch g) n inside (has s) filled)
    (AreMarks-from_none (first_latch g) n _ _ _ fresh marked)
