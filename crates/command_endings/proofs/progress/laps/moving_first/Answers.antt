use Rattle.std.proofs.Common.{◌∙◌}
use Rattle.command_endings.proofs.LapLaws.{moving-none, moving-some}
use Rattle.command_endings.proofs.progress.laps.moving_first.Goals as goal

pub returns-in-Some : goal.returns-in-Some
returns-in-Some c = c.time_of.ensures ∙ moving-some c.args.laps.now c.first.result c.in-Some.lap c.in-Some.is c.first.ensures.value

pub returns-in-None : goal.returns-in-None
returns-in-None c = moving-none c.args.laps.now c.first.result c.in-None.is c.first.ensures.value
