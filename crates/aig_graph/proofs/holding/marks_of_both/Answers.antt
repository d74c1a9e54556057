use Rattle.std.proofs.Common.{◌∙◌}
use Rattle.std.proofs.lemmas.List.{with_items_is}
use Rattle.aig_graph.proofs.PositionLaws.{both-marked}
use Rattle.aig_graph.proofs.holding.marks_of_both.Goals as goal

pub returns : goal.returns
returns c =
    with_items_is c.in_ok-marks.marks c.mark_variables.new.marks (c.mark_variables.ensures.as_long ∙ c.as_mut_slice.ensures.len)
    ∙ both-marked c.args.latches c.args.held.now c.args.positions.now c.as_mut_slice.result.now c.mark_variables.new.marks
    (c.as_mut_slice.ensures.value ∙ c.in_ok-marks.ensures) c.mark_variables.ensures
