use Rattle.std.proofs.Common.{◌∙◌, ap, length}
use Rattle.reports.proofs.CountLaws.{counts-is}
use Rattle.reports.proofs.statistics.Counts.of.Goals as goal

pub returns : goal.returns
returns c =
    counts-is c.args.circuit.now c.aig-aig.result.now c.props-props.result.now _ _ _ _ _ _ _ _ _ _ _ c.aig-aig.ensures.value c.props-props.ensures.value
    (c.from.ensures ∙ c.inputs.ensures.value) (ap length c.latches.ensures.value) (c.from-2.ensures ∙ c.free_latches.ensures) (c.from-3.ensures ∙ c.known_latches.ensures)
    (ap length c.gates.ensures.value) (c.from-4.ensures ∙ c.in_ok-levels.ensures) c.len.ensures c.len-2.ensures c.len-3.ensures c.len-4.ensures c.len-5.ensures
