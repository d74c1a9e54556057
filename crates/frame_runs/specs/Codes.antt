-- The numbers of the errors.
use Rattle.std.specs.Prelude.{ℕ}
use Rattle.aig_graph.specs.declared.holding.HoldError.{HoldError}
use Rattle.aig_graph.specs.declared.holding.HoldError.TheVariants as holding
use Rattle.frame_runs.specs.declared.errors.BytesError.{BytesError}
use Rattle.frame_runs.specs.declared.errors.BytesError.TheVariants.{Read, Retime, Write}
use Rattle.frame_runs.specs.declared.errors.RetimeError.{RetimeError}
use Rattle.frame_runs.specs.declared.errors.RetimeError.TheVariants.{Misread, NoMemory, NoSuchLatch, NoSuchName, NotShown}
use Rattle.frame_runs.specs.declared.errors.RunError.{RunError}
use Rattle.frame_runs.specs.declared.errors.RunError.TheVariants as runs

-- the numbers of the errors
abbrev pub retime_error_code : RetimeError → ℕ
retime_error_code NoMemory = 1
retime_error_code (NoSuchName place) = 2
retime_error_code (NoSuchLatch place) = 3
retime_error_code (Misread latch) = 4
retime_error_code (NotShown latch) = 5

-- the number of an error
abbrev pub bytes_error_code : BytesError → ℕ
bytes_error_code (Read e) = 1
bytes_error_code (Retime e) = 2
bytes_error_code (Write e) = 3

-- the error of a run by that of holding latches
abbrev pub of_hold_error : HoldError → RetimeError
of_hold_error holding.NoMemory = NoMemory
of_hold_error (holding.NoSuchName place) = NoSuchName place
of_hold_error (holding.NoSuchLatch place) = NoSuchLatch place

-- the error of a run by that of its steps after the holding
abbrev pub of_run_error : RunError → RetimeError
of_run_error runs.NoMemory = NoMemory
of_run_error (runs.Misread latch) = Misread latch
of_run_error (runs.NotShown latch) = NotShown latch
