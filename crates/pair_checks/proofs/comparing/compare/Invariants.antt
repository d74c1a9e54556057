use Rattle.std.proofs.Common.{IfNone}
use Rattle.pair_checks.specs.Sides.{AreEqualAt}
use Rattle.pair_checks.proofs.comparing.compare.Given as goal

abbrev pub invariant-loop-place : goal.invariant-loop-place
invariant-loop-place l = IfNone l.found.open (AreEqualAt l.pair l.first l.second l.place)
