use Rattle.std.proofs.Common.{◌≡◌, take}
use Rattle.reports.proofs.agreement.compare.Given as goal

abbrev pub invariant-loop-place : goal.invariant-loop-place
invariant-loop-place l = take l.place l.file ≡ take l.place l.text
