use Rattle.std.proofs.Common.{ℕ, ◌<◌, get_or}
use Rattle.pair_checks.specs.Openings.{BeginsAs}
use Rattle.pair_checks.proofs.readings.begin_alike.Given as goal

abbrev pub invariant-loop-place : goal.invariant-loop-place
invariant-loop-place l = (j : ℕ) → j < l.place → BeginsAs l.first l.begins (get_or l.reads j 0) (get_or l.begins j 0)
