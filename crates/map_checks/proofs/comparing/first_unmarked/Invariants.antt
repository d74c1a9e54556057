use Rattle.std.proofs.Common.{ℕ, ◌<◌}
use Rattle.map_checks.specs.Parts.{IsMarked}
use Rattle.map_checks.proofs.comparing.first_unmarked.Given as goal

abbrev pub invariant-loop-place : goal.invariant-loop-place
invariant-loop-place l = (place : ℕ) → place < l.place → IsMarked l.marks place
