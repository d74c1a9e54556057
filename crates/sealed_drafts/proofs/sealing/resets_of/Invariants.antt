use Rattle.std.proofs.Common.{◌≡◌, map, take}
use Rattle.sealed_drafts.specs.Sealed.{reset_of}
use Rattle.sealed_drafts.proofs.sealing.resets_of.Given as goal

abbrev pub invariant-loop-latch : goal.invariant-loop-latch
invariant-loop-latch l = l.resets.items ≡ map (λ latch. reset_of latch.reset) (take l.latch-index l.latches)
