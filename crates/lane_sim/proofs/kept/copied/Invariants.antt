use Rattle.std.proofs.Common.{◌≡◌, take}
use Rattle.lane_sim.proofs.kept.copied.Given as goal

abbrev pub invariant-loop-step : goal.invariant-loop-step
invariant-loop-step l = l.copy.items ≡ take l.step-index l.steps
