use Rattle.std.proofs.Common.{ℕ, ◌≡◌, ◌<◌, None, get_or}
use Rattle.lane_sim.proofs.difference.first_found.Given as goal

abbrev pub invariant-loop-answer : goal.invariant-loop-answer
invariant-loop-answer l = (i : ℕ) → i < l.answer-index → get_or l.found i None ≡ None
