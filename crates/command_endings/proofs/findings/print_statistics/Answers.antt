use Rattle.json_reports.specs.Counts.{statistics_data}
use Rattle.command_endings.proofs.EndingLaws.{object_ends}
use Rattle.command_endings.proofs.findings.print_statistics.Goals as goal

pub returns : goal.returns
returns g c =
    object_ends c.print_statistics-printed.result _ (statistics_data c.args.statistics.now c.args.merged) _ _ _ c.ended.ensures c.print_statistics-printed.ensures
