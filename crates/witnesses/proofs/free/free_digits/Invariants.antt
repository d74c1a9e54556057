use Rattle.std.proofs.Common.{◌≡◌, ◌++◌, drop}
use Rattle.witnesses.specs.Carrying.{free_digits}
use Rattle.witnesses.proofs.free.free_digits.Given as goal

abbrev pub invariant-loop-place : goal.invariant-loop-place
invariant-loop-place l = free_digits l.latches l.digits ≡ l.free.items ++ free_digits (drop l.place l.latches) (drop l.place l.digits)
