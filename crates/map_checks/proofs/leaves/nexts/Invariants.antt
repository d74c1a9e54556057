use Rattle.std.proofs.Common.{◌≡◌, take}
use Rattle.map_checks.specs.Images.{nexts_of}
use Rattle.map_checks.proofs.leaves.nexts.Given as goal

abbrev pub invariant-loop-latch : goal.invariant-loop-latch
invariant-loop-latch l = l.lits.items ≡ nexts_of (take l.latch-index l.aig.latches)
