use Rattle.std.proofs.Common.{◌≡◌, length}
use Rattle.fretime.proofs.batch.read_jobs.Given as goal

abbrev pub invariant-loop-entry : goal.invariant-loop-entry
invariant-loop-entry g l = length l.jobs.items ≡ l.entry-index
