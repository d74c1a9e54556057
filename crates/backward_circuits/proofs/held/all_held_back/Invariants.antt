use Rattle.std.proofs.Common.{ℕ, ◌<◌, get_or}
use Rattle.backward_circuits.specs.MovedBack.{IsHeldBackIn}
use Rattle.backward_circuits.proofs.held.all_held_back.Given as goal

abbrev pub invariant-loop-position : goal.invariant-loop-position
invariant-loop-position l = (j d : ℕ) → j < l.position-index → IsHeldBackIn l.circuit l.after l.map (get_or l.positions j d)
