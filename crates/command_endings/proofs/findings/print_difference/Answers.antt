use Rattle.json_reports.specs.Differences.{difference_data}
use Rattle.command_endings.proofs.EndingLaws.{object_ends}
use Rattle.command_endings.proofs.findings.print_difference.Goals as goal

pub returns : goal.returns
returns g c =
    let ends = rw c.outcome_of_difference.ensures at c.ended.ensures in
    object_ends c.print_difference-printed.result _ (difference_data c.args.found) _ _ _ ends c.print_difference-printed.ensures
