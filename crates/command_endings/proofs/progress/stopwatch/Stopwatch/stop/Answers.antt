use Rattle.std.proofs.Common.{◌∙◌, ap}
use Rattle.command_endings.specs.progress.Laps.{times_of}
use Rattle.command_endings.proofs.progress.stopwatch.Stopwatch.stop.Goals as goal

pub returns-in-Ok : goal.returns-in-Ok
returns-in-Ok g c = record { last = c.end_part.new.self; ended = c.end_part.ensures.ended c.if-watch.false; told = c.in-Ok.ensures ∙ ap (times_of c.args.self.networks) c.as_slice.ensures.value }
