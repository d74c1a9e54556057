use Rattle.std.proofs.Common.{◌∙◌}
use Rattle.path_levels.proofs.LevelLaws.{levels-by}
use Rattle.path_levels.proofs.leveling.levels.Goals as goal

pub returns : goal.returns
returns c =
    levels-by c.args.circuit.now c.aig-aig.result.now c.props.result.now c.first_gate-first.result c.as_slice-entries.result.now c.latches.result.now c.highest_next-high.result c.highest_property.result
    c.aig-aig.ensures.value c.props.ensures.value c.first_gate-first.ensures.value (c.as_slice-entries.ensures.value ∙ c.in_ok-table.ensures) c.latches.ensures.value c.highest_next-high.ensures c.highest_property.ensures
