use Rattle.std.proofs.Common.{refl}
use Rattle.commands.specs.Replaying.{listed_on}
use Rattle.commands.proofs.AuditLaws.{listed-next}
use Rattle.commands.proofs.replaying.listed_latches.Goals as goal

pub loop-part-init : goal.loop-part-init
unfolding listed_on
loop-part-init c = refl

pub loop-part-preserved : goal.loop-part-preserved
loop-part-preserved c =
    listed-next c.args.parts.now c.loop-part.part-index c.part-item.result c.loop-part.counted _ c.loop-part-test.true c.part-item.is c.loop-part.invariant c.with_listed-counted.ensures
