use Rattle.std.proofs.Common.{◌≡◌, ◌++◌, map, take}
use Rattle.gate_sharing.specs.Circuits.{copied_latch}
use Rattle.gate_sharing.proofs.circuits.push_latches.Given as goal

abbrev pub invariant-loop-latch : goal.invariant-loop-latch
invariant-loop-latch l = l.latches.items ≡ l.fn.latches.items ++ map (copied_latch l.copied) (take l.latch-index l.latch-items)
