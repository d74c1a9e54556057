use Rattle.std.proofs.Common.{◌∙◌}
use Rattle.std.proofs.lemmas.List.{with_items_is}
use Rattle.reports.proofs.HeldBackLaws.{elsewhere-marks}
use Rattle.reports.proofs.held_back.marks_elsewhere.Goals as goal

pub returns : goal.returns
returns c =
    with_items_is c.in_ok-marks.marks c.mark_read.new.read (c.mark_read.ensures.as_long ∙ c.as_mut_slice.ensures.len)
    ∙ elsewhere-marks c.args.circuit.now c.args.keep.now c.aig-aig.result.now c.props.result.now c.latches_and_gates.result c.args.pass.now.first c.marks.result.now c.as_mut_slice.result.now c.mark_read.new.read
    c.aig-aig.ensures.value c.props.ensures.value c.latches_and_gates.ensures.value c.requires.first (c.marks.ensures ∙ c.requires.marks)
    (c.as_mut_slice.ensures.value ∙ c.in_ok-marks.ensures.items_if_clones_equal (λ y h. h)) c.mark_read.ensures
