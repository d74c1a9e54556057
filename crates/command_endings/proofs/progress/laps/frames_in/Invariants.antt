use Rattle.std.proofs.Common.{◌≡◌, ◌++◌, drop}
use Rattle.command_endings.specs.progress.Laps.{frames_in}
use Rattle.command_endings.proofs.progress.laps.frames_in.Given as goal

abbrev pub invariant-loop-k : goal.invariant-loop-k
invariant-loop-k l = l.frames.items ++ frames_in (drop l.k l.laps) ≡ frames_in l.laps
