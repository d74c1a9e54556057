use Rattle.std.specs.Prelude.{option_map}
use Rattle.json_reports.specs.Retimings.{retiming_data}
use Rattle.command_endings.proofs.EndingLaws.{object_ends}
use Rattle.command_endings.proofs.findings.print_retiming.Goals as goal

pub returns : goal.returns
returns g c =
    object_ends c.print_retiming-printed.result _ (retiming_data c.args.rounds.now c.args.levels c.args.remaining.now (option_map (λ t. t.now) c.args.times) c.args.map) _ _ _ c.ended.ensures c.print_retiming-printed.ensures
