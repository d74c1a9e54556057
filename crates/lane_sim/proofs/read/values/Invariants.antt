use Rattle.std.proofs.Common.{◌≡◌, take}
use Rattle.lane_sim.specs.Stimuli.{values_of}
use Rattle.lane_sim.proofs.read.values.Given as goal

abbrev pub invariant-loop-digit : goal.invariant-loop-digit
invariant-loop-digit l = l.values.items ≡ values_of (take l.digit-index l.digits)
