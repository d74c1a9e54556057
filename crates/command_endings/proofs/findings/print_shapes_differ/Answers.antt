use Rattle.json_reports.specs.Differences.{shapes_data}
use Rattle.command_endings.proofs.EndingLaws.{object_ends}
use Rattle.command_endings.proofs.findings.print_shapes_differ.Goals as goal

pub returns : goal.returns
returns g c = object_ends c.print_shapes_differ-printed.result _ shapes_data _ _ _ c.ended.ensures c.print_shapes_differ-printed.ensures
