use Rattle.std.proofs.Common.{◌≡◌, map, take}
use Rattle.lane_sim.specs.Kept.{for_kept}
use Rattle.lane_sim.proofs.kept.sequences_for_kept.Given as goal

abbrev pub invariant-loop-sequence : goal.invariant-loop-sequence
invariant-loop-sequence l = l.made.items ≡ map (for_kept l.kept) (take l.sequence-index l.sequences)
