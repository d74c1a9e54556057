use Rattle.std.proofs.Common.{◌≡◌, map, take}
use Rattle.cleaned_circuits.specs.Merged.{replaced_latch}
use Rattle.clean.proofs.merged.replaced_latches.Given as goal

abbrev pub invariant-loop-latch : goal.invariant-loop-latch
invariant-loop-latch l = l.replaced.items ≡ map (replaced_latch l.substitutes) (take l.latch-index l.latches)
