use Rattle.std.proofs.Common.{◌≡◌, map, take}
use Rattle.path_levels.specs.Levels.{entry_at, highest}
use Rattle.path_levels.proofs.leveling.highest_next.Given as goal

abbrev pub invariant-loop-latch : goal.invariant-loop-latch
invariant-loop-latch l = l.high ≡ highest (entry_at l.first l.entries) 0 (map (λ latch. latch.next) (take l.latch-index l.latches))
