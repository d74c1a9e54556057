use Rattle.std.proofs.Common.{◌∙◌}
use Rattle.std.proofs.lemmas.List.{with_items_is}
use Rattle.aig_graph.specs.Marking.{has}
use Rattle.aig_graph.proofs.MarkingLaws.{table-marks}
use Rattle.aig_graph.proofs.marks.marks_of.Goals as goal

pub returns : goal.returns
returns c =
    with_items_is c.in_ok-marks.marks c.mark_variables.new.marks (c.mark_variables.ensures.as_long ∙ c.as_mut_slice.ensures.len)
    ∙ table-marks c.args.first c.args.variables c.as_mut_slice.result.now c.mark_variables.new.marks (has c.args.vars.now)
    (c.as_mut_slice.ensures.value ∙ c.in_ok-marks.ensures.items_if_clones_equal (λ y h. h)) c.mark_variables.ensures
