use Rattle.std.proofs.Common.{◌≡◌, map, take}
use Rattle.circuit_files.specs.pages.Nearest.{edits}
use Rattle.circuit_files.proofs.pages.near_names.edits_to_all.Given as goal

abbrev pub invariant-loop-other : goal.invariant-loop-other
invariant-loop-other l = l.counts.items ≡ map (λ other. edits l.name other.now) (take l.other-index l.names)
