use Rattle.std.proofs.Common.{◌≡◌, take}
use Rattle.path_levels.specs.Levels.{entry_at, highest}
use Rattle.path_levels.proofs.leveling.highest.Given as goal

abbrev pub invariant-loop-lit : goal.invariant-loop-lit
invariant-loop-lit l = l.high ≡ highest (entry_at l.first l.entries) l.level (take l.lit-index l.lits)
