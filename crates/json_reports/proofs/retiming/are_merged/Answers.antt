use Rattle.std.proofs.Common.{◌∙◌, Some, None}
use Rattle.json_reports.proofs.MergedLineLaws.{first-tells}
use Rattle.json_reports.proofs.retiming.are_merged.Goals as goal

pub returns-in-Some : goal.returns-in-Some
returns-in-Some c = c.is_some.ensures ∙ first-tells c.args.parts.now (Some c.in-Some.part.now) c.in-Some.ensures.value

pub returns-in-None : goal.returns-in-None
returns-in-None c = first-tells c.args.parts.now None c.in-None.ensures.value
