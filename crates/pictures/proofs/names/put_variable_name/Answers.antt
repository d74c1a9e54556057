use Rattle.pictures.proofs.TextLaws.{puts-drawn, puts-undrawn}
use Rattle.pictures.specs.Pictures.{variable_name}
use Rattle.pictures.proofs.names.put_variable_name.Goals as goal

pub returns-then-draws : goal.returns-then-draws
unfolding variable_name
returns-then-draws g c = puts-drawn c.draws.ensures c.if-draws.true (rw c.as_slice.ensures at c.put_name.ensures)

pub returns-else-draws : goal.returns-else-draws
unfolding variable_name
returns-else-draws g c = puts-undrawn _ c.draws.ensures c.if-draws.false
