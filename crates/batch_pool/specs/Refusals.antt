-- The outcomes of bytes in memory that were not retimed.
use Rattle.std.specs.Prelude.{if◌then◌else◌}
use Rattle.file_words.specs.declared.fault.ReadError.{ReadError}
use Rattle.file_words.specs.Codes.{is_fault_of_bytes}
use Rattle.frame_runs.specs.declared.errors.BytesError.{BytesError}
use Rattle.frame_runs.specs.declared.errors.BytesError.TheVariants.{Read, Retime, Write}
use Rattle.frame_runs.specs.declared.errors.RetimeError.TheVariants as retiming
use Rattle.batch_pool.specs.declared.job.Outcome.{Outcome}
use Rattle.batch_pool.specs.declared.job.Outcome.TheVariants.{Misread, NoMemory, NoSuchLatch, NoSuchName, NotShown, Refused}

-- a fault of the bytes refuses them; else memory was wanting
abbrev pub of_fault : ReadError → Outcome
of_fault fault = if is_fault_of_bytes fault then Refused fault else NoMemory

-- the outcome of a file by the error of its run; a write into memory fails for want of memory alone
abbrev pub of_error : BytesError → Outcome
of_error (Read fault) = of_fault fault
of_error (Retime retiming.NoMemory) = NoMemory
of_error (Retime (retiming.NoSuchName place)) = NoSuchName place
of_error (Retime (retiming.NoSuchLatch place)) = NoSuchLatch place
of_error (Retime (retiming.Misread latch)) = Misread latch
of_error (Retime (retiming.NotShown latch)) = NotShown latch
of_error (Write e) = NoMemory
