-- The exit statuses.
use Rattle.std.specs.Prelude.{ℕ}
use Rattle.circuit_files.specs.declared.outcome.Outcome.{Outcome}
use Rattle.circuit_files.specs.declared.outcome.Outcome.TheVariants.{Done, Refused, ShapesDiffer, CommandLine, Device, Memory, Differ, Unconfirmed}

-- the exit status
abbrev pub status_of : Outcome → ℕ
status_of Done = 0
status_of Refused = 1
status_of ShapesDiffer = 1
status_of CommandLine = 2
status_of Device = 3
status_of Memory = 4
status_of Differ = 5
status_of Unconfirmed = 5
