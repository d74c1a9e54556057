use Rattle.std.proofs.Common.{ℕ, ◌≡◌, ◌<◌, get_or}
use Rattle.gate_sharing.specs.Copies.{copy_of}
use Rattle.map_checks.proofs.comparing.first_open.Given as goal

abbrev pub invariant-loop-place : goal.invariant-loop-place
invariant-loop-place l = (j : ℕ) → j < l.place → copy_of l.copied (get_or l.lits j 0) ≡ 1
