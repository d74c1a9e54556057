use Rattle.pictures.proofs.TextLaws.{puts-drawn, puts-undrawn}
use Rattle.std.proofs.Common.{refl}
use Rattle.pictures.proofs.node.put_if.Goals as goal

pub returns-then-holds : goal.returns-then-holds
returns-then-holds g c = puts-drawn refl c.if-holds.true c.put.ensures

pub returns-else-holds : goal.returns-else-holds
returns-else-holds g c = puts-undrawn _ refl c.if-holds.false
