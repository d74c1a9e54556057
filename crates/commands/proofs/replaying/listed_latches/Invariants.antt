use Rattle.std.proofs.Common.{◌≡◌, None, take}
use Rattle.commands.specs.Replaying.{listed_on}
use Rattle.commands.proofs.replaying.listed_latches.Given as goal

abbrev pub invariant-loop-part : goal.invariant-loop-part
invariant-loop-part l = l.counted ≡ listed_on None (take l.part-index l.parts)
