use Rattle.std.proofs.Common.{◌≡◌, map, take}
use Rattle.lane_sim.specs.Traces.{choice_of}
use Rattle.lane_sim.proofs.kept.choice_for_kept.Given as goal

abbrev pub invariant-loop-place : goal.invariant-loop-place
invariant-loop-place l = l.values.items ≡ map (choice_of l.sequence) (take l.place-index l.kept)
