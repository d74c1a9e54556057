use Rattle.std.proofs.Common.{◌≡◌, length, map, take}
use Rattle.lane_sim.proofs.trace.lengths.Given as goal

abbrev pub invariant-loop-sequence : goal.invariant-loop-sequence
invariant-loop-sequence l = l.lengths.items ≡ map (λ s. length s.steps) (take l.sequence-index l.sequences)
