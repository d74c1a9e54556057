use Rattle.std.proofs.Common.{◌∙◌}
use Rattle.reports.proofs.HeldBackLaws.{held_back-is}
use Rattle.reports.proofs.held_back.HeldBack.of.Goals as goal

pub returns : goal.returns
returns c =
    held_back-is c.args.circuit.now c.args.keep.now c.aig-aig.result.now c.as_slice.result.now _ _ _ _ c.aig-aig.ensures.value (c.as_slice.ensures.value ∙ c.in_ok-marks.ensures)
    c.free_latches.ensures c.count_held.ensures c.count_marked.ensures
    (c.count.ensures.passable c.aig-aig.result.now c.args.keep.now c.in_ok-pass.ensures)
