use Rattle.std.proofs.Common.{◌≡◌, ◌+◌, ◌-◌, ◌^◌, ◌≤◌, drop, min}
use Rattle.command_endings.specs.progress.Laps.{time_in, total_in}
use Rattle.command_endings.proofs.progress.laps.time_in.Given as goal

abbrev pub invariant-loop-lap : goal.invariant-loop-lap
invariant-loop-lap l = record {
  fits : l.total ≤ 2 ^ 64 - 1;
  so_far : min (l.total + total_in l.part (drop l.lap-index l.laps)) (2 ^ 64 - 1) ≡ time_in l.part l.laps;
}
