use Rattle.std.proofs.Common.{◌∙◌}
use Rattle.command_line.proofs.NumeralLaws.{number_read}
use Rattle.command_line.proofs.values.number_of.Goals as goal

pub returns : goal.returns
returns c = c.unwrap_or.ensures ∙ number_read c.args.text.now c.parse.result c.parse.ensures.value.0
