use Rattle.std.proofs.Common.{◌≡◌, ◌++◌, map, take}
use Rattle.witness_circuits.proofs.latches.push_resets.Given as goal

abbrev pub invariant-loop-latch : goal.invariant-loop-latch
invariant-loop-latch l = l.resets.items ≡ l.fn.resets.items ++ map (λ latch. latch.reset) (take l.latch-index l.latches)
