use Rattle.std.proofs.Common.{◌≡◌, ◌∙◌, ap, replicate, false, ℕ}
use Rattle.std.proofs.lemmas.List.{with_items_is}
use Rattle.aig_graph.specs.Graph.{variables_end}
use Rattle.aig_graph.specs.Tables.{table}
use Rattle.aig_graph.proofs.MarkingLaws.{table-marks}
use Rattle.pictures.specs.Near.{is_centre}
use Rattle.pictures.proofs.centre.centre.Goals as goal

pub returns : goal.returns
returns c =
    let test = is_centre c.args.circuit.now c.args.name.now in
    let n : ℕ = c.variables.result in
    let fresh : c.as_mut_slice.result.now ≡ replicate n false = c.as_mut_slice.ensures.value ∙ c.in_ok-marks.ensures.items_if_clones_equal (λ y h. h) in
    with_items_is c.in_ok-marks.marks c.mark_centre.new.marks (c.mark_centre.ensures.as_long ∙ c.as_mut_slice.ensures.len)
    ∙ table-marks 0 n c.as_mut_slice.result.now c.mark_centre.new.marks test fresh c.mark_centre.ensures
    ∙ ap (λ (m : ℕ). table 0 m test) (c.variables.ensures.value ∙ ap variables_end c.aig.ensures.value)
