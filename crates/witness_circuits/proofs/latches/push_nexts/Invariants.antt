use Rattle.std.proofs.Common.{◌≡◌, ◌++◌, map, take}
use Rattle.map_circuits.specs.Instances.{substitute}
use Rattle.witness_circuits.proofs.latches.push_nexts.Given as goal

abbrev pub invariant-loop-latch : goal.invariant-loop-latch
invariant-loop-latch l = l.nexts.items ≡ l.fn.nexts.items ++ map (λ latch. substitute l.instance latch.next) (take l.latch-index l.latches)
