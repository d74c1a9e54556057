use Rattle.std.proofs.Common.{◌≡◌, take}
use Rattle.std.specs.List.{flat_map}
use Rattle.path_levels.specs.Levels.{entry_at, highest}
use Rattle.path_levels.proofs.leveling.highest_justice.Given as goal

abbrev pub invariant-loop-lits : goal.invariant-loop-lits
invariant-loop-lits l = l.high ≡ highest (entry_at l.first l.entries) l.level (flat_map (λ lits. lits) (take l.lits-index l.justice))
