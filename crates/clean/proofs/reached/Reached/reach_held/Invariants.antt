use Rattle.std.proofs.Common.{◌≡◌, ◌+◌, ◌*◌, ℕ, map, take}
use Rattle.clean.specs.Sweep.{reach, reach_all}
use Rattle.clean.proofs.reached.Reached.reach_held.Given as goal

abbrev pub invariant-loop-position : goal.invariant-loop-position
invariant-loop-position l = l.self ≡ reach_all reach l.fn.self (map (λ (j : ℕ). 2 * (l.fn.self.first + j)) (take l.position-index l.held))
